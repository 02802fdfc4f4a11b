use Rattle.std.proofs.Common.{List, ℕ, ap}
use Rattle.warg_crypto.specs.EmptyTrees.{empty_root}
use Rattle.warg_pages.specs.Private.Finals.{AreLeft}
use Rattle.warg_pages.proofs.FinalPeers.{held_proof, held_leads, absent_proof, absent_leads}
use Rattle.warg_pages.proofs.prove.prove_by_pages.Goals as goal

pub returns-in_default-clause-leads : goal.returns-in_default-clause-leads
returns-in_default-clause-leads g c =
    let digest = g.D.SupportedDigest.digest _ in
    let os = c.way_from_root.new.peers.items in
    let way = rw (c.of-digest.ensures, c.in_default.is) at c.in_ok-held.ensures.ok in
    let left : AreLeft os c.count_left.result = rw c.as_slice.ensures.value at c.count_left.ensures in
    rw (c.reverse.ensures.items, c.truncate.ensures.items)
    (absent_leads _ digest (empty_root _ 0) c.args.root.now os _ left way.few way.leads)

pub returns-in_default-clause-own : goal.returns-in_default-clause-own
returns-in_default-clause-own g c = λ known es is_known own.
    let digest = g.D.SupportedDigest.digest _ in
    let os = c.way_from_root.new.peers.items in
    let way = rw (c.of-digest.ensures, c.in_default.is) at c.in_ok-held.ensures.own in
    let left : AreLeft os c.count_left.result = rw c.as_slice.ensures.value at c.count_left.ensures in
    let found = way known es is_known own in
    rw (c.reverse.ensures.items, c.truncate.ensures.items)
    (absent_proof _ es digest os _ left found.are_peers found.is_leaf)

pub returns-clause-leads : goal.returns-clause-leads
returns-clause-leads g c =
    let digest = g.D.SupportedDigest.digest (g.K.VisitBytes.bytes c.args.key.now) in
    let os = c.way_from_root.new.peers.items in
    let way = rw (c.of-digest.ensures, c.in-Some.is) at c.in_ok-held.ensures.ok in
    let left : AreLeft os c.count_left.result = rw c.as_slice.ensures.value at c.count_left.ensures in
    rw (
      c.reverse-2.ensures.items,
      c.in_ok-filled.ensures.ok,
      c.as_slice-2.ensures.value,
      c.truncate.ensures.items,
      c.copied.ensures,
      ap (λ (h : ℕ × List ℕ). h.1) c.held.view_is,
    ) (held_leads _ digest c.in-Some.held.1 c.args.root.now os c.count_left.result left
    way.few way.leads)

pub returns-clause-own : goal.returns-clause-own
returns-clause-own g c = λ known es is_known own.
    let digest = g.D.SupportedDigest.digest _ in
    let os = c.way_from_root.new.peers.items in
    let way = rw (c.of-digest.ensures, c.in-Some.is) at c.in_ok-held.ensures.own in
    let left : AreLeft os c.count_left.result = rw c.as_slice.ensures.value at c.count_left.ensures in
    let found = way known es is_known own in (
      rw (ap (λ (h : ℕ × List ℕ). h.0) c.held.view_is) found.is_index,
      rw (c.copied.ensures, ap (λ (h : ℕ × List ℕ). h.1) c.held.view_is) found.is_leaf,
      rw (c.reverse-2.ensures.items, c.in_ok-filled.ensures.ok, c.as_slice-2.ensures.value, c.truncate.ensures.items)
          (held_proof _ es digest c.in-Some.held.1 os _ left found.are_peers found.is_leaf),
    )
