use Rattle.std.proofs.Common.{sym, ◌∙◌}
use Rattle.warg_tiles.proofs.EntryLemmas.{some_left}
use Rattle.warg_tiles.proofs.TextLemmas.{added_none, added_line, not_lines}
use Rattle.warg_tiles.proofs.checkpoint_text.CheckpointText.read_extensions.Goals as goal

pub lines-init : goal.lines-init
lines-init g c = added_none c.args.self.now c.args.bytes.now

pub returns-in_default : goal.returns-in_default
returns-in_default g c = record {
  ok = tt;
  err = λ more rest all e. not_lines c.lines.invariant.0 more c.lines.rest.now rest c.lines.invariant.1 all
      c.in_default.ensures
      (some_left c.lines.rest.now (sym c.is_empty.ensures ∙ c.lines-test.true)) (sym c.lines.invariant.3 ∙ e);
}

pub lines-preserved : goal.lines-preserved
lines-preserved g c =
    added_line c.args.self.now c.lines.self c.push_extension.new.self c.args.bytes.now c.lines.rest.now
    c.in-Some.line.now c.in-Some.behind.now c.lines.invariant c.in-Some.ensures.1
    (record {
      some = some_left c.in-Some.line.now (sym c.is_empty-in-lines.ensures ∙ c.if-is_empty.false);
      no_newline = c.in-Some.ensures.0;
    })
    c.in_ok-push_extension.ensures.ok
