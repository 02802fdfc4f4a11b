use Rattle.std.proofs.Common.{◌≡◌, List, ℕ, ◌%◌, ◌-◌, length, drop, ◌/◌, [], ◌∷◌, ◌++◌, map, sym, ap, ◌∙◌, rules, arith}
use Rattle.std.proofs.Math.Seq.{take-length}
use Rattle.std.proofs.lemmas.List.{map-append, length-append, length-drop}
use Rattle.std.proofs.lemmas.Result.{IfOk-weaker, on_ok_weaker}
use Rattle.warg_log.specs.Tree.{root_of}
use Rattle.warg_tiles.specs.Private.Edges.{EndsWith}
use Rattle.warg_tiles.proofs.BetweenLemmas.{same_tile}
use Rattle.warg_tiles.proofs.EdgeLemmas.{width_more, width_full, edge_partial, edge_full, ends_up, tile_added, fits_low, next_fits, nothing_added, both}
use Rattle.warg_tiles.proofs.tile_log.+fill.Goals as goal

pub returns-then-count-lt255 : goal.returns-then-count-lt255
returns-then-count-lt255 g t c =
    let low = fits_low c.args.level c.args.count c.requires.fits in
    record {
      kept = (
        omega arith,
        omega (
          arith,
          c.requires.width,
          width_more c.args.level c.args.count low c.if-count-lt255.true,
        ),
      );
      edge = λ ds is. rw (take-length c.args.edge.now)
          (edge_partial g.D.SupportedDigest.digest ds c.args.edge.now c.args.digest c.args.level c.args.count low
          c.if-count-lt255.true is);
      filled = λ ds is. nothing_added g.D.SupportedDigest.digest ds _ c.args.level c.args.count low
          c.if-count-lt255.true;
    }

pub overflow_sub-edge : goal.overflow_sub-edge
overflow_sub-edge g t c = omega (
  arith,
  c.requires.width,
  (width_full c.args.level c.args.count (fits_low c.args.level c.args.count c.requires.fits)
      (omega arith)).0,
)

pub new-requires-clause-level : goal.new-requires-clause-level
new-requires-clause-level g t c = omega (arith, fits_low c.args.level c.args.count c.requires.fits)

pub new-requires-2 : goal.new-requires-2
new-requires-2 g t c =
    let digests = c.in_ok-push.ensures.items ∙ ap (λ l. l ++ c.args.digest ∷ [])
    (c.in_ok-digests.ensures ∙ c.split_at.ensures.back) in
    omega (
      arith,
      c.new.ensures.width,
      c.requires.width,
      (width_full c.args.level c.args.count (fits_low c.args.level c.args.count c.requires.fits) (omega arith)).0,
      ap length digests,
      length-append (drop (length c.args.edge.now - 255) c.args.edge.now) (c.args.digest ∷ []),
      length-drop (length c.args.edge.now - 255) c.args.edge.now,
    )

pub fill-requires : goal.fill-requires
fill-requires g t c κs within =
    let full : c.args.count % 256 ≡ 255 = omega arith in (
      search rules,
      (
        search rules,
        (
          search rules,
          (
            next_fits c.args.level c.args.count c.requires.fits full,
            omega (
              arith,
              c.split_at.ensures.front_len,
              c.requires.width,
              (width_full c.args.level c.args.count (fits_low c.args.level c.args.count c.requires.fits) full).0,
            ),
          ),
        ),
      ),
    )

pub returns : goal.returns
returns g t c =
    let H = g.D.SupportedDigest.digest in
    let full : c.args.count % 256 ≡ 255 = omega arith in
    let low = fits_low c.args.level c.args.count c.requires.fits in
    let digests = c.in_ok-push.ensures.items ∙ ap (λ l. l ++ c.args.digest ∷ [])
    (c.in_ok-digests.ensures ∙ c.split_at.ensures.back) in
    let up = λ (ds : List (List ℕ)) (is : EndsWith H ds c.args.level c.args.count c.args.edge.now c.args.digest).
    ends_up H ds c.args.edge.now c.split_at.result.0.now c.push.new.self.items c.args.digest c.root_over-root.result
    c.args.level c.args.count low full is c.split_at.ensures.front
    digests (c.root_over-root.ensures ∙ ap (root_of H) c.as_slice.ensures.value) in
    record {
      kept = IfOk-weaker c.fill.result _ _
          (λ r h. (
            omega (arith, h.0, c.split_at.ensures.front_len),
            h.1
                ∙ sym (width_full c.args.level c.args.count low full).1,
          )) c.fill.ensures.kept;
      edge = both c.fill.result _ _ _
          (λ r kept edge ds is. edge_full H ds c.args.edge.now c.split_at.result.0.now r.1 c.args.level c.args.count r.0
          low full c.split_at.ensures.front kept.0 (edge ds (up ds is)))
          c.fill.ensures.kept c.fill.ensures.edge;
      filled = on_ok_weaker c.fill.result
          (λ filled ds is.
          tile_added H ds c.args.edge.now c.push.new.self.items c.args.digest _ _ _ c.new.result c.args.level
          c.args.count low full is digests
          (same_tile c.new.result c.args.level (c.args.count / 256) 256 c.new.ensures.level c.new.ensures.number
          c.new.ensures.width)
          (ap (map (λ t. (t.tile, t.digests.items))) c.in_ok-push-2.ensures.items
          ∙ map-append (λ t. (t.tile, t.digests.items)) c.args.filled.now.items (c.new-2.result ∷ [])
          ∙ ap (λ t. map (λ t. (t.tile, t.digests.items)) c.args.filled.now.items ++ t ∷ [])
          (cc (c.new-2.ensures.tile, c.new-2.ensures.digests)))
          (filled ds (up ds is)))
          c.fill.ensures.filled;
    }
