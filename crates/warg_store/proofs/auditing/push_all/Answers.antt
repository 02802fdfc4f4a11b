use Rattle.std.proofs.Common.{ℕ, Vec, ◌∙◌, arith}
use Rattle.std.specs.declared.alloc.Global.{Global}
use Rattle.warg_store.proofs.AuditLemmas.{next_more}
use Rattle.warg_store.proofs.auditing.push_all.Goals as goal

pub entries-preserved : goal.entries-preserved
entries-preserved g c = record {
  pushed = next_more (λ (e : Vec ℕ Global). e.items) c.args.log.now c.entries.log c.push_one.new.log c.args.entries.now
      c.entries.entry-index c.entry-item.result (omega arith) c.entry-item.is c.entries.invariant.pushed
      c.in_ok-push_one.ensures.pushed;
  taken = c.push_one.ensures.taken ∙ c.entries.invariant.taken;
}
