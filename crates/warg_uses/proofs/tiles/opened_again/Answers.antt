use Rattle.std.proofs.Common.{◌∙◌, sym, subst}
use Rattle.std.specs.List.{AllByRecursion}
use Rattle.std.proofs.lemmas.Result.{IfOk-weaker}
use Rattle.warg_crypto.specs.Digests.{sha256}
use Rattle.warg_log.specs.Tree.{own_digest}
use Rattle.warg_tiles.specs.TileData.{IsTileBy}
use Rattle.warg_uses.proofs.TileCallers.{all_seen}
use Rattle.warg_uses.proofs.tiles.opened_again.Goals as goal

pub returns : goal.returns
returns c =
    IfOk-weaker c.open.result _ _
    (λ again h ds stands.
    h ds (stands.count ∙ sym c.length.ensures.value)
    (subst (λ l. AllByRecursion (λ t. IsTileBy (own_digest sha256 ds) t.tile t.digests.items) l)
    (sym c.as_slice.ensures.value)
    (all_seen (λ t. IsTileBy (own_digest sha256 ds) t.0 t.1) (λ t. (t.tile, t.digests.items))
    c.in_ok-tiles.tiles.items (c.in_ok-tiles.ensures.tiles ds stands).digests)))
    c.open.ensures.stands
