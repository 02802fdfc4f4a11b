-- Parts behind their lengths, so that their bytes say where each begins.
use Rattle.std.specs.Prelude.{ℕ, ◌^◌, ◌<◌, List, ◌++◌, length}
use Rattle.std.specs.List.{flat_map}
use Rattle.std.specs.Int.{to_be_bytes, w64}

-- A part behind its length, which is 8 bytes, the greatest first.
abbrev pub framed_part : List ℕ → List ℕ
framed_part part = to_be_bytes w64 (length part) ++ part

-- Parts one after the other, each behind its length.
abbrev pub framed : List (List ℕ) → List ℕ
framed parts = flat_map framed_part parts

-- A part whose length 8 bytes can say.
abbrev pub IsPart : List ℕ → Type 0
IsPart part = length part < 2 ^ 64
