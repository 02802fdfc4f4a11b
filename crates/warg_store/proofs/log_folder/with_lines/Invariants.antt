use Rattle.std.proofs.Common.{◌≡◌, ◌++◌, take, map}
use Rattle.warg_store.proofs.log_folder.with_lines.Given as goal

abbrev pub invariant-lines : goal.invariant-lines
invariant-lines l = l.text ≡ record l.fn.text {
  extensions = l.fn.text.extensions ++ map (λ x. x.items)
      (take l.line-index l.lines);
}
