use Rattle.std.proofs.Common.{◌≡◌, ◌+◌, ◌-◌, ◌*◌, ◌++◌, ◌∷◌, [], take, drop, sym, ap, ◌∙◌, arith}
use Rattle.std.proofs.lemmas.List.FromFn.{map-range_with_len_more}
use Rattle.warg_tiles.specs.TileData.{digests_in}
use Rattle.warg_tiles.proofs.data.digests_in.Goals as goal

pub places-preserved : goal.places-preserved
places-preserved g c =
    let bytes = c.args.bytes.now in
    let place = c.places.place in
    let width : 32 * place + 32 - 32 * place ≡ 32 = omega arith in
    c.in_ok-push-in-Ok.ensures.items ∙ ap (λ l. l ++ c.in-Ok.digest ∷ []) c.places.invariant
    ∙ ap (λ d. digests_in place bytes ++ d ∷ [])
    (c.in-Ok.ensures.ok ∙ ap (λ n. take n (drop (32 * place) bytes)) width)
    ∙ sym (map-range_with_len_more (λ i. take 32 (drop (32 * i) bytes)) 0 place place (omega arith))
