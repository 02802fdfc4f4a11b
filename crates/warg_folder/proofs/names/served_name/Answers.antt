use Rattle.warg_folder.proofs.names.served_name.Goals as goal

pub returns-in_err-name : goal.returns-in_err-name
returns-in_err-name c = rw c.from_residual.ensures (λ n is. c.in_err-name.ensures.cases n)
