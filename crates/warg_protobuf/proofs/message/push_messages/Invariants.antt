use Rattle.std.proofs.Common.{◌≡◌, ◌++◌, take}
use Rattle.std.specs.Prelude.{All}
use Rattle.std.specs.List.{flat_map}
use Rattle.warg_protobuf.specs.Written.{field_bytes, fields_bytes, delimited_field}
use Rattle.warg_protobuf.proofs.message.push_messages.Given as goal

abbrev pub invariant-loop-message : goal.invariant-loop-message
invariant-loop-message g l = record {
  written : l.out.items ≡ l.fn.out.items ++ flat_map
      (λ m. field_bytes (delimited_field l.field (fields_bytes (g.M.Message.fields (g.M.Message.view m)))))
      (take l.message-index l.messages);
  fits : All (λ m. g.M.Message.Fits (g.M.Message.view m)) (take l.message-index l.messages);
}
