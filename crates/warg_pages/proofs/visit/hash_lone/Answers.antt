use Rattle.std.proofs.Common.{◌≡◌, ◌∙◌, ◌+◌, ◌++◌, [], ◌∷◌, List, ℕ, length, take, get_or, sym, ap, arith, add-one}
use Rattle.std.proofs.Math.Seq.{take-suc}
use Rattle.warg_crypto.specs.Digests.{IsDigest}
use Rattle.warg_pages.specs.Slots.{SlotAt}
use Rattle.warg_pages.specs.Pages.{slot_height}
use Rattle.warg_pages.specs.Private.Descents.{lone_root}
use Rattle.warg_pages.proofs.BitParts.{lone_root-none}
use Rattle.warg_pages.proofs.HashEquality.{same_hashes, other_hashes}
use Rattle.warg_pages.proofs.LonesBelow.{lone_alone}
use Rattle.warg_pages.proofs.visit.hash_lone.Goals as goal

pub returns-then-ne-clause-err : goal.returns-then-ne-clause-err
returns-then-ne-clause-err g c below =
    let lone = c.args.lone.now in
    let depth = length _ in
    let key : c.lone.inside.key ≡ lone.0 = ap (λ (l : List ℕ × List ℕ). l.0) c.lone.view_is in
    let is : IsDigest lone.0 = rw (c.bytes-key.ensures.value ∙ key) at c.bytes-key.ensures.digest in
    let root : c.lone_tree.result ≡ lone_root _ lone.0 lone.1 (slot_height depth) =
    rw key at (c.lone_tree.ensures lone.1 (ap (λ (l : List ℕ × List ℕ). l.1) c.lone.view_is
    ∙ lone_root-none _ _ lone.1)) in
    other_hashes _ _ _ c.ne.ensures c.if-ne.true (root
    ∙ sym (lone_alone _ lone c.args.prefix.now c.args.slot.now.byte is c.requires below.begins) ∙ sym below.digest
    ∙ sym (ap (λ (x : SlotAt). x.digest) c.slot.view_is))

pub returns-clause-ok : goal.returns-clause-ok
returns-clause-ok g c =
    let lone = c.args.lone.now in
    let depth = length _ in
    let key : c.lone.inside.key ≡ lone.0 = ap (λ (l : List ℕ × List ℕ). l.0) c.lone.view_is in
    let bytes : c.bytes-key.result.now ≡ lone.0 = c.bytes-key.ensures.value ∙ key in
    let is : IsDigest lone.0 = rw bytes at c.bytes-key.ensures.digest in
    let digest : c.slot.inside.digest ≡ c.args.slot.now.digest = ap (λ (x : SlotAt). x.digest) c.slot.view_is in
    let root : c.lone_tree.result ≡ lone_root _ lone.0 lone.1 (slot_height depth) =
    rw key at (c.lone_tree.ensures lone.1 (ap (λ (l : List ℕ × List ℕ). l.1) c.lone.view_is
    ∙ lone_root-none _ _ lone.1)) in
    let all = is.has_32 in
    let front = c.begins_with.ensures.0 c.if-not-begins_with.false in
    let next = c.if-key-depth.false in
    let begins : take (depth + 1) lone.0 ≡ c.args.prefix.now ++ c.args.slot.now.byte ∷ [] =
    rw (add-one depth) (take-suc lone.0 depth 0 (omega arith)
    ∙ (λ i. (ap (take depth) (sym bytes) ∙ front) i ++ (ap (λ k. get_or k depth 0) (sym bytes) ∙ next
    ∙ ap (λ (x : SlotAt). x.byte) c.slot.view_is) i ∷ [])) in
    record {
      begins = begins;
      digest = sym digest ∙ sym (same_hashes _ _ _ c.ne.ensures c.if-ne.false) ∙ root
          ∙ sym (lone_alone _ lone c.args.prefix.now c.args.slot.now.byte is c.requires begins);
    }
