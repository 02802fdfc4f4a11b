use Rattle.std.specs.Prelude.{map, option_map, unwrap_or}
use Rattle.std.proofs.Common.{◌≡◌, ℕ, ◌∷◌, List, length, sym, ap, ◌∙◌, arith}
use Rattle.std.proofs.lemmas.List.{length-map}
use Rattle.warg_crypto.specs.Digests.{sha256}
use Rattle.warg_tiles.specs.CheckpointText.{Said, text_of}
use Rattle.warg_store.specs.Log.{said_of}
use Rattle.warg_store.proofs.GrowingLemmas.{own_parts}
use Rattle.warg_store.proofs.log_folder.LogFolder.end.Goals as goal

pub returns-clause-is : goal.returns-clause-is
returns-clause-is g c = λ served old next has same.
    let inside = rw (← c.self.view_is) at has in
    let origin : c.args.self.now.text.origin ≡ next.origin =
    ap (λ (s : Said). s.origin) has.text ∙ sym has.extends.origin in
    let lines = c.lines_or.ensures.these
    ∙ ap (λ (s : Said). unwrap_or (option_map (λ ls. map (λ l. l.items) ls.now) c.args.lines) s.extensions) has.text
    ∙ sym same in
    let said : c.in_ok-text.text ≡ said_of next = c.in_ok-text.ensures.said next origin lines has.edge in
    let bytes = c.in_ok-bytes.ensures ∙ ap text_of said in
    let size : length next.entries ≡ c.args.self.now.edge.len =
    sym (length-map next.entries (λ (e : List ℕ). sha256 (0 ∷ e))) ∙ has.edge.count in
    record {
      can = record {
        origin = rw origin at c.in_ok-text.ensures.line;
        lines = rw lines at c.lines_or.ensures.each;
        most = omega (arith, size, c.in_ok-text.ensures.fits);
        short = has.short;
        text = omega (arith, ap length bytes);
      };
      says = said;
      bytes = bytes;
      tiles = own_parts next _ _ inside.edge c.in_ok-tiles.ensures.tiles;
    }
