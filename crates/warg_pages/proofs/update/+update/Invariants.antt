use Rattle.std.proofs.Common.{◌≡◌, ℕ, ◌+◌, ◌-◌, ◌*◌, ◌<◌, ◌≤◌, ◌++◌, [], List, length, vec_len}
use Rattle.std.specs.List.{All, HoldsAt, filter, filter_map}
use Rattle.warg_pages.specs.Prefixes.{bits_of_bytes}
use Rattle.warg_pages.specs.Slots.{slot_of, numbers}
use Rattle.warg_pages.specs.Pages.{slot_at}
use Rattle.warg_pages.specs.ChangedPages.{ChangedPageAt}
use Rattle.warg_pages.specs.Private.Updates.{IsOwnUpdate, GoesBelow, AreChangedAmong, ChangeWhatStood, goes_to}
use Rattle.warg_pages.proofs.update.+update.Given as goal

abbrev pub decreases-update_page : goal.decreases-update_page
decreases-update_page g l = 2 * (32 - length l.update.prefix.items) + 1

abbrev pub decreases-slot_after : goal.decreases-slot_after
decreases-slot_after g l = 2 * (32 - length l.update.now.prefix.items)

abbrev pub invariant-update_page-loop-byte : goal.invariant-update_page-loop-byte
invariant-update_page-loop-byte g l = record {
  known : (known : g.P.Pages.Known) → g.P.Pages.IsKnown l.fn.pages known → g.P.Pages.IsKnown l.pages known;
  below : All (λ x. x.byte < l.byte) l.page;
  changed : (added : List ChangedPageAt) × (l.changed.items ≡ l.fn.changed.items ++ added)
      × ((known : g.P.Pages.Known) (old more : List (List ℕ × List ℕ)) → g.P.Pages.IsKnown l.fn.pages known
      → IsOwnUpdate g.D.SupportedDigest.digest (g.P.Pages.bytes_at known) l.update.prefix.items
      l.update.version l.update.digest l.update.page l.update.changes.items old more
      → (l.page ≡ filter_map (slot_of g.D.SupportedDigest.digest (old ++ more) (bits_of_bytes l.update.prefix.items))
      (numbers 0 l.byte)) × AreChangedAmong g.D.SupportedDigest.digest old more
      (GoesBelow l.update.prefix.items l.byte) added)
      × ChangeWhatStood g.D.SupportedDigest.digest l.update.prefix.items l.update.page l.update.changes.items added;
  split : (vec_len l.lists ≡ 256) × ((s : ℕ) → l.byte ≤ s → s < 256
      → HoldsAt (λ list. list.items ≡ filter (goes_to (length l.update.prefix.items) s) l.update.changes.items)
      l.lists.items s);
  kept : (s : ℕ) → s < l.byte → filter (goes_to (length l.update.prefix.items) s) l.update.changes.items ≡ []
      → slot_at l.page s ≡ slot_at l.update.page s;
}
