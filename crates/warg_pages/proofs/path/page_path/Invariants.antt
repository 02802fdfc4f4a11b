use Rattle.std.proofs.Common.{◌≡◌, ◌++◌, take, codes}
use Rattle.std.specs.Prelude.{string_bytes}
use Rattle.std.specs.List.{flat_map}
use Rattle.warg_pages.specs.PagePaths.{byte_path}
use Rattle.warg_pages.proofs.path.page_path.Given as goal

abbrev pub invariant-bytes : goal.invariant-bytes
invariant-bytes g l = string_bytes l.path ≡ codes "map/" ++ flat_map byte_path (take l.byte-index l.prefix)
