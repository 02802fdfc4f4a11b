use Rattle.std.proofs.Common.{◌*◌, take, drop, ◌∙◌}
use Rattle.std.proofs.lemmas.List.FromFn.{length-map-range_with_len}
use Rattle.warg_tiles.proofs.data.TileData.insert_bytes.Goals as goal

pub insert-requires : goal.insert-requires
insert-requires g c =
    rw c.in_ok-digests.ensures (length-map-range_with_len (λ i. take 32 (drop (32 * i) c.args.bytes.now)) 0
    c.width-2.result ∙ c.width-2.ensures.value)
