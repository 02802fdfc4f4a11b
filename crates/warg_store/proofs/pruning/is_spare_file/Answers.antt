use Rattle.std.proofs.Common.{◌≡◌, true, false, string_bytes, sym, ◌∙◌}
use Rattle.warg_store.proofs.PruneLemmas.{spare_tile, there_if_read}
use Rattle.warg_store.proofs.pruning.is_spare_file.Goals as goal

pub returns-in_default-clause-spare : goal.returns-in_default-clause-spare
returns-in_default-clause-spare g c = λ faithful. (
  λ no. absurd (let e : false ≡ true = no in cc),
  λ spare. absurd (c.in_ok-named.ensures.none c.in_default.is spare.tile spare.full spare.is spare.paths),
)

pub returns-then-not-is_spare-clause-spare : goal.returns-then-not-is_spare-clause-spare
returns-then-not-is_spare-clause-spare g c = λ faithful.
    let named = c.in-Some.named in
    let is = rw c.in-Some.is at c.in_ok-named.ensures.tile in
    let paths = rw c.in-Some.is at c.in_ok-named.ensures.paths in (
      λ no. absurd (let e : false ≡ true = no in cc),
      λ spare. absurd (let yes : c.is_spare.result ≡ true = c.is_spare.ensures.1 (spare_tile c.args.name.now named.tile
          (string_bytes named.full) is paths spare).0 in let e : true ≡ false = sym yes ∙ c.if-not-is_spare.true in cc),
    )

pub returns-clause-spare : goal.returns-clause-spare
returns-clause-spare g c = λ faithful.
    let named = c.in-Some.named in
    let full = string_bytes named.full in
    let is = rw c.in-Some.is at c.in_ok-named.ensures.tile in
    let paths = rw c.in-Some.is at c.in_ok-named.ensures.paths in
    let fits = c.is_spare.ensures.0 c.if-not-is_spare.false in
    let there = there_if_read c.in_ok-full.full (g.F.Folder.seen c.args.folder.now full) 1
    (rw c.as_str.ensures.value at (c.in_ok-full.ensures.found faithful)) in (
      λ yes. record {
        tile = named.tile;
        full = full;
        is = is;
        paths = paths;
        partial = fits.0;
        exists = fits.1;
        unserved = fits.2;
        there = there.0 (sym c.is_some.ensures ∙ yes);
      },
      λ spare. c.is_some.ensures ∙ there.1 (spare_tile c.args.name.now named.tile full is paths spare).1,
    )
