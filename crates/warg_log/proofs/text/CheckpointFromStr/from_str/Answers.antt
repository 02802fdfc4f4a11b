use Rattle.std.proofs.Common.{arith}
use Rattle.warg_log.proofs.TextLemmas.{without_space, without_length, without_root, with_both}
use Rattle.warg_log.proofs.text.CheckpointFromStr.from_str.Goals as goal

pub returns-in_default : goal.returns-in_default
returns-in_default g c = without_space _ _ c.split_once.result c.split_once.ensures.cases c.in_default.is

pub returns-in_default-decimal_in : goal.returns-in_default-decimal_in
returns-in_default-decimal_in g c = without_length _ _ c.in-Some.length c.in-Some.root c.in-Some.ensures.cases
    c.in_default-decimal_in.ensures

pub returns-in-Ok : goal.returns-in-Ok
returns-in-Ok g c =
    with_both _ c.in-Some.length c.in-Some.root c.in-Some-decimal_in.length c.in-Ok.root _ c.in-Some.ensures.cases
    (omega arith) c.in-Some-decimal_in.ensures c.in-Ok.ensures.value
    c.new.ensures.root c.new.ensures.length

pub returns-in-Err : goal.returns-in-Err
returns-in-Err g c = without_root _ c.in-Err.field-0 _ c.in-Some.length c.in-Some.root c.in-Some.ensures.cases
    c.in-Err.ensures.value
