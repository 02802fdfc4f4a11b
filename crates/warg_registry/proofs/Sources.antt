-- What is known of a log's pages while they are read.
use Rattle.std.proofs.Common.{◌≡◌, ℕ, Bool, true, false, true≢false, List, Option, None, refl, sym, ap, subst, arith}
use Rattle.warg_crypto.specs.Digests.{sha256}
use Rattle.warg_folder.specs.Moments.{IsRead}
use Rattle.warg_folder.specs.declared.device.Folder.{Ghosts}
use Rattle.warg_folder.proofs.ForCallers.{read_is}
use Rattle.warg_pages.specs.ProvedKeys.{IsOwnSource}
use Rattle.warg_store.specs.Growing.{LogIn}
use Rattle.warg_store.specs.Reading.{ServedIn}
use Rattle.warg_registry.specs.declared.error.ReadFault.{ReadFault}
use Rattle.warg_registry.specs.Folder.{IsLogRead, ReadsOn, RegistryIn, page_read}
use Rattle.warg_registry.specs.Reading.{RegistryRead, ReadsRegistry}
use Rattle.warg_registry.specs.Sources.{LogBefore, IsFailureTold}
use Rattle.warg_registry.proofs.RegistryPages.{read_source}

-- where no reading failed, nothing is told
pub none_told : {IsFaithful : Type 0} {fault : Option ReadFault} (n : ℕ) → fault ≡ None
    → IsFailureTold IsFaithful n n fault
none_told n none = record { later = omega arith; failed = λ faithful is. absurd (cc) }

-- a registry that is added to, and one that a reader has
abbrev pub with_map : {F : Type 0} → LogIn F → Bool → List ℕ → ℕ → RegistryIn F
with_map log takes root count = record { log = log; takes = takes; root = root; count = count }

abbrev pub with_root : {F : Type 0} → ServedIn F → List ℕ → RegistryRead F
with_root log root = record { log = log; root = root }

module _ {F : Type 0} (dev : Ghosts F) where
  abbrev IsReadOnly : LogIn F → LogIn F → Type 0
  IsReadOnly old new = IsLogRead dev.seen dev.may_leave dev.moment dev.left_since old new

  -- what is known of a log that is added to, and of one that is read
  abbrev IsKnownKept : LogBefore (LogIn F) → LogIn F → Option ReadFault → Type 0
  IsKnownKept known now fault = (known.is_faithful ≡ true → dev.IsFaithful × IsReadOnly known.log now)
      × IsFailureTold dev.IsFaithful known.faults (dev.faults now.folder) fault

  abbrev IsKnownServed : LogBefore (ServedIn F) → ServedIn F → Option ReadFault → Type 0
  IsKnownServed known now fault = (now ≡ record known.log { folder = now.folder })
      × (known.is_faithful ≡ true → dev.IsFaithful
      × IsRead dev.seen dev.may_leave dev.moment dev.left_since known.log.folder now.folder)
      × IsFailureTold dev.IsFaithful known.faults (dev.faults now.folder) fault

  -- the same on a faithful device: of a log as it was before, and of one as it is
  abbrev pub at_kept : LogIn F → LogIn F → LogBefore (LogIn F)
  at_kept known now = record { log = known; is_faithful = true; faults = dev.faults now.folder }

  abbrev pub at_served : ServedIn F → LogBefore (ServedIn F)
  at_served now = record { log = now; is_faithful = true; faults = dev.faults now.folder }

  pub log_is_read : (now : LogIn F) → IsReadOnly now now
  log_is_read now = record { same = refl; read = read_is dev.seen dev.may_leave dev.moment dev.left_since now.folder }

  -- The pages of a log that is added to were read: the log is as it was, and where the reading failed, the device did.
  pub record AreKeptRead (before : ℕ) (old new : LogIn F) (is : Option ReadFault) : Type 0 where
    pub read : dev.IsFaithful → ReadsOn dev.seen dev.may_leave dev.moment dev.left_since old new
    pub told : IsFailureTold dev.IsFaithful before (dev.faults new.folder) is

  pub kept_read : {before : ℕ} {old new : LogIn F} {was is : Option ReadFault}
      → IsFailureTold dev.IsFaithful before (dev.faults old.folder) was
      → ((known : LogBefore (LogIn F)) → IsKnownKept known old was → IsKnownKept known new is)
      → AreKeptRead before old new is
  kept_read {before = before} {old = old} told known = record {
    read = λ faithful log read. ((known (record { log = log; is_faithful = true; faults = before })
        (λ e. (faithful, read), told)).0 refl).1;
    told = (known (record { log = old; is_faithful = false; faults = before })
        (λ e. absurd (true≢false (sym e)), told)).1;
  }

  -- The same where nothing was told before, with what is known on a faithful device.
  pub record AreKeptAnew (old new : LogIn F) (was is : Option ReadFault) : Type 0 where
    pub known : dev.IsFaithful → (log : LogIn F) → IsReadOnly log old → IsKnownKept (at_kept log old) old was
    pub done : AreKeptRead (dev.faults old.folder) old new is

  pub kept_anew : {old new : LogIn F} {was is : Option ReadFault} → was ≡ None
      → ((known : LogBefore (LogIn F)) → IsKnownKept known old was → IsKnownKept known new is)
      → AreKeptAnew old new was is
  kept_anew {old = old} none known = record {
    known = λ faithful log read. (λ e. (faithful, read), none_told (dev.faults old.folder) none);
    done = kept_read (none_told (dev.faults old.folder) none) known;
  }

  -- So it is of a registry that is added to, whose map stays what it is.
  pub record AreFolderRead (r : RegistryIn F) (old new : LogIn F) (root : List ℕ) (count : ℕ)
      (was is : Option ReadFault) : Type 0 where
    pub known : dev.IsFaithful → IsKnownKept (at_kept r.log r.log) old was
    pub own : (kept : List (List ℕ × List ℕ))
        → IsOwnSource sha256 (page_read (dev.seen r.log.folder)) r.root r.count kept
        → IsOwnSource sha256 (page_read (dev.seen r.log.folder)) root count kept
    pub read : dev.IsFaithful → IsReadOnly r.log new
    pub told : IsFailureTold dev.IsFaithful (dev.faults r.log.folder) (dev.faults new.folder) is

  pub folder_read : {r : RegistryIn F} {old new : LogIn F} {takes : Bool} {root : List ℕ} {count : ℕ}
      {was is : Option ReadFault} → with_map old takes root count ≡ r → was ≡ None
      → ((known : LogBefore (LogIn F)) → IsKnownKept known old was → IsKnownKept known new is)
      → AreFolderRead r old new root count was is
  folder_read {old = old} {new = new} {root = root} {count = count} {was = was} {is = is} view none known =
      let anew = kept_anew none known in
      subst (λ (x : RegistryIn F). AreFolderRead x old new root count was is) view (record {
        known = λ faithful. anew.known faithful old (log_is_read old);
        own = λ kept own. own;
        read = λ faithful. anew.done.read faithful old (log_is_read old);
        told = anew.done.told;
      })

  -- And of one that a reader has.
  pub record AreServedRead (r t : RegistryRead F) (old : ServedIn F) (was is : Option ReadFault) : Type 0 where
    pub known : dev.IsFaithful → IsKnownServed (at_served r.log) old was
    pub own : (origin : List ℕ) (insertions : List (List ℕ × List ℕ)) (count : ℕ) → count ≡ r.log.text.length
        → ReadsRegistry dev.seen origin insertions r
        → IsOwnSource sha256 (page_read (dev.seen r.log.folder)) t.root count insertions
    pub same : (t.root ≡ r.root) × (t.log.text ≡ r.log.text)
    pub read : dev.IsFaithful → IsRead dev.seen dev.may_leave dev.moment dev.left_since r.log.folder t.log.folder
    pub told : IsFailureTold dev.IsFaithful (dev.faults r.log.folder) (dev.faults t.log.folder) is

  pub served_read : {r : RegistryRead F} {old new : ServedIn F} {root : List ℕ} {was is : Option ReadFault}
      → with_root old root ≡ r → was ≡ None
      → ((known : LogBefore (ServedIn F)) → IsKnownServed known old was → IsKnownServed known new is)
      → AreServedRead r (with_root new root) old was is
  served_read {old = old} {new = new} {root = root} {was = was} {is = is} view none known =
      subst (λ (x : RegistryRead F). AreServedRead x (with_root new root) old was is) view (record {
        known = here;
        own = λ origin insertions count counts has. read_source origin insertions (dev.seen old.folder)
            has.reads.files root count old.text has.reads.text counts has.is_root;
        same = (refl, ap (λ (l : ServedIn F). l.text) any.0);
        read = λ faithful. ((known (at_served old) (here faithful)).1 refl).1;
        told = any.2;
      })
    where
      none_yet : IsFailureTold dev.IsFaithful (dev.faults old.folder) (dev.faults old.folder) was
      none_yet = none_told (dev.faults old.folder) none

      here : dev.IsFaithful → IsKnownServed (at_served old) old was
      here faithful =
          (refl, λ e. (faithful, read_is dev.seen dev.may_leave dev.moment dev.left_since old.folder), none_yet)

      unsure : LogBefore (ServedIn F)
      unsure = record { log = old; is_faithful = false; faults = dev.faults old.folder }

      any : IsKnownServed unsure new is
      any = known unsure (refl, λ e. absurd (true≢false (sym e)), none_yet)
