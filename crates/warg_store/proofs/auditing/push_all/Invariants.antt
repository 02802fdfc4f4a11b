use Rattle.std.proofs.Common.{◌≡◌, ◌++◌, List, ℕ, map, take}
use Rattle.warg_crypto.specs.Digests.{sha256}
use Rattle.warg_log.specs.Tree.{leaves_of}
use Rattle.warg_tiles.specs.TileLog.{StandsFor}
use Rattle.warg_store.proofs.auditing.push_all.Given as goal

abbrev pub invariant-entries : goal.invariant-entries
invariant-entries g l = record {
  pushed : (es : List (List ℕ)) → StandsFor sha256 l.fn.log (leaves_of sha256 es)
      → StandsFor sha256 l.log (leaves_of sha256 (es ++ map (λ e. e.items) (take l.entry-index l.entries)));
  taken : l.log.taken ≡ l.fn.log.taken;
}
