use Rattle.std.proofs.Common.{false, arith, ap, ◌∙◌, ◌++◌, codes, get_or}
use Rattle.std.proofs.lemmas.Fmt.{hex_byte}
use Rattle.warg_pages.specs.PagePaths.{byte_path}
use Rattle.warg_pages.proofs.PathText.{path_more}
use Rattle.warg_pages.proofs.path.page_path.Goals as goal

pub bytes-preserved : goal.bytes-preserved
bytes-preserved g c =
    let byte = get_or c.args.prefix.now c.bytes.byte-index 0 in
    let laid = rw c.laid_out.ensures at c.in_ok-write.ensures.bytes in
    let digits = rw c.in_radix.ensures at laid in
    let written = rw (hex_byte false byte (omega (arith, c.type_inv.prefix c.bytes.byte-index))) at digits in
    written ∙ ap (λ t. t ++ byte_path byte) c.bytes.invariant
    ∙ path_more byte_path (codes "map/") c.args.prefix.now c.bytes.byte-index c.bytes-test.true
