-- What the start of `answer` leaves at each of its ends.
use Rattle.std.proofs.Common.{◌≡◌, inl, ℕ, ◌≤◌, List, Option, None, Some, Ok, Err, refl, sym, ap, ◌∙◌, subst, arith}
use Rattle.base_core.specs.Causes.{Rose}
use Rattle.acl_core.specs.Known.{Known}
use Rattle.command_line.specs.Command.{AnswerCommand}
use Rattle.disk_core.specs.Disk.{DiskState}
use Rattle.disk_core.specs.declared.disk.Disk.{Ghosts}
use Rattle.doip_segment.specs.declared.outcome.Limits.{Limits}
use Rattle.ext_ops.specs.Offered.{Offered}
use Rattle.link_core.specs.Host.{CallCounts, Holdings, HostState}
use Rattle.link_core.specs.declared.host.HostFault.{HostFault}
use Rattle.link_core.specs.declared.host.HostFault.TheVariants as host_faults
use Rattle.repo_step.specs.Setting.{Setting}
use Rattle.repo_store.specs.Opening.{Opens, IsRefusedFor}
use Rattle.repo_store.specs.Store.{Seen}
use Rattle.repo_store.specs.declared.fault.StoreFault.{StoreFault}
use Rattle.repo_store.specs.declared.fault.StoreFault.TheVariants as faults
use Rattle.repo_top.specs.declared.outcome.NoSession.{NoSession}
use Rattle.repo_top.specs.declared.outcome.NoSession.TheVariants as reasons
use Rattle.repo_top.specs.AccountsFile.{AreAccounts, AsksForFile, HasFileReason}
use Rattle.repo_top.specs.Run.{Counted}
use Rattle.repo_top.specs.Start.{AsksForDisk, AsksForStore, HasNoStart, HasReason, HasStarted, IsLeftAlone, IsOfStore, IsOpened, IsRefusedAs, IsSetUp, OnDisk, Starts, faults_of, files_left, reason_of_host, reason_of_store}

pub none_opened : {E : Type 0} (state : E → DiskState) (path : Option (List ℕ)) (holds : Option Holdings)
    → IsOpened state path holds None
none_opened state path holds = record {
  named = λ is. absurd (cc);
  no_fault = λ disk is. absurd (cc);
  file = λ h name held named disk is. absurd (cc);
}

-- no file was named
pub no_store : {E : Type 0} (state : E → DiskState) (path : Option (List ℕ)) (old : HostState) → path ≡ None
    → AsksForStore state path old old (Ok None)
no_store state (Some name) old is = absurd (cc is)
no_store state None old is = record {
  there = refl;
  opened = none_opened state None old.holds;
  disks = refl;
  links = refl;
  listeners = refl;
  holds = λ h held. held;
  calls = refl;
  later = omega arith;
  cause = λ fault. absurd (cc fault);
}

no_disk_asked : (path : Option (List ℕ)) (a : CallCounts) → AsksForDisk path a a
no_disk_asked None a = refl
no_disk_asked (Some path) a = inl refl

-- without a disk a host holds what it held
pub none_left : (E : Type 0) (path : Option (List ℕ)) (h : Holdings) → files_left {E = E} path None h ≡ h
none_left E None h = refl
none_left E (Some path) h = refl

-- why there are no accounts
file_reason : {E : Type 0} (state : E → DiskState) (command : AnswerCommand) (old a : HostState) (opened disk : Option E) (reason : NoSession)
    → HasFileReason command.accounts old.holds old.faults a.faults reason → HasReason state command old a opened disk reason
file_reason state command old a opened disk reasons.Host has = has
file_reason state command old a opened disk (reasons.File named) has = has
file_reason state command old a opened disk (reasons.Disk count) has = absurd has
file_reason state command old a opened disk (reasons.Store fault) has = absurd has
file_reason state command old a opened disk reasons.Memory has = tt

-- a host that handed nothing out
pub host_reason : {E : Type 0} (state : E → DiskState) (command : AnswerCommand) (old mid new : HostState) (opened disk : Option E) (fault : HostFault)
    → old.faults ≤ mid.faults → (fault ≡ host_faults.Failed → Rose mid.faults new.faults)
    → HasReason state command old new opened disk (reason_of_host fault)
host_reason state command old mid new opened disk host_faults.Failed later cause = omega (arith, later, cause refl)
host_reason state command old mid new opened disk host_faults.Memory later cause = tt

-- a store that was not opened
refused_at : {E : Type 0} (state : E → DiskState) (command : AnswerCommand) (old new : HostState) (opened disk : Option E) (before after : E)
    → opened ≡ Some before → disk ≡ Some after → (fault : StoreFault) → IsRefusedFor (state before) (state after) fault
    → HasReason state command old new opened disk (reason_of_store (faults_of state (Some after)) fault)
refused_at {E} state command old new opened disk before after p q fault refused = by fault refused
  where
    on : (Holds : DiskState → DiskState → Type 0) → Holds (state before) (state after) → OnDisk state opened disk Holds
    on Holds h = subst (λ (w : Option E × Option E). OnDisk state w.0 w.1 Holds) (λ i. (sym p i, sym q i)) h

    by : (f : StoreFault) → IsRefusedFor (state before) (state after) f → HasReason state command old new opened disk (reason_of_store (faults_of state (Some after)) f)
    by faults.NotAStore h = (tt, on _ h)
    by (faults.Version byte) h = (tt, on _ h)
    by (faults.Damaged place) h = (tt, on _ h)
    by (faults.Unsound id) h = (tt, on _ h)
    by faults.DiskFault h = on _ (h.disk_fault refl, refl)
    by faults.Memory h = tt

store_reason : {E : Type 0} (state : E → DiskState) (command : AnswerCommand) (old new : HostState) (opened disk : Option E) (reason : NoSession)
    → IsRefusedAs state opened disk reason → HasReason state command old new opened disk reason
store_reason {E} state command old new (Some before) (Some after) reason refused =
    subst (λ (r : NoSession). HasReason state command old new (Some before) (Some after) r) (sym refused.2)
    (refused_at state command old new (Some before) (Some after) before after refl refl refused.0 refused.1)
store_reason state command old new (Some before) None reason refused = absurd refused
store_reason state command old new None (Some after) reason refused = absurd refused
store_reason state command old new None None reason refused = absurd refused

refused_alone : {E : Type 0} (state : E → DiskState) (opened disk : Option E) (reason : NoSession) → IsRefusedAs state opened disk reason
    → IsLeftAlone state opened disk
refused_alone state (Some before) (Some after) reason refused = refused.1.alone
refused_alone state (Some before) None reason refused = absurd refused
refused_alone state None (Some after) reason refused = absurd refused
refused_alone state None None reason refused = absurd refused

-- ---- the ends of a start

-- the accounts were refused, or out of memory
not_of_store : (path : Option (List ℕ)) (holds : Option Holdings) (before now : ℕ) (reason : NoSession)
    → HasFileReason path holds before now reason → IsOfStore reason → ⊥
not_of_store path holds before now reasons.Host has of = of
not_of_store path holds before now (reasons.File named) has of = of
not_of_store path holds before now (reasons.Disk count) has of = has
not_of_store path holds before now (reasons.Store fault) has of = has
not_of_store path holds before now reasons.Memory has of = of

pub no_accounts_start : {E : Type 0} (state : E → DiskState) (command : AnswerCommand) (old a : HostState) (reason : NoSession)
    → AsksForFile command.accounts old a → HasFileReason command.accounts old.holds old.faults a.faults reason
    → HasNoStart state command old a None None reason
no_accounts_start {E} state command old a reason asks has = record {
  has = file_reason state command old a None None reason has;
  accounts = λ of. absurd (not_of_store command.accounts old.holds old.faults a.faults reason has of);
  alone = tt;
  starts = record {
    between = a.calls;
    file = asks.calls;
    disk = no_disk_asked command.store a.calls;
    disks = ap (λ h. h.disks) asks.handed;
    links = ap (λ h. h.links) asks.handed;
    listeners = ap (λ h. h.listeners) asks.handed;
    holds = λ h held. asks.holds ∙ held ∙ ap Some (sym (none_left E command.store h));
    later = asks.later;
    handed = none_opened state command.store old.holds;
  };
}

pub not_of_host : (fault : HostFault) → IsOfStore (reason_of_host fault) → ⊥
not_of_host host_faults.Failed of = of
not_of_host host_faults.Memory of = of

pub no_disk_start : {E : Type 0} (state : E → DiskState) (command : AnswerCommand) (old a b : HostState) (fault : HostFault)
    (reason : NoSession) → reason ≡ reason_of_host fault
    → AsksForFile command.accounts old a → AsksForStore {E = E} state command.store a b (Err fault)
    → HasNoStart state command old b None None reason
no_disk_start {E} state command old a b fault reason is asks disk = subst (λ (r : NoSession). HasNoStart state command old b None None r) (sym is) (record {
  has = host_reason state command old a b None None fault asks.later (λ failed. disk.cause (ap Err failed));
  accounts = λ of. absurd (not_of_host fault of);
  alone = tt;
  starts = record {
    between = a.calls;
    file = asks.calls;
    disk = disk.calls;
    disks = disk.disks ∙ ap (λ h. h.disks) asks.handed;
    links = disk.links ∙ ap (λ h. h.links) asks.handed;
    listeners = disk.listeners ∙ ap (λ h. h.listeners) asks.handed;
    holds = λ h held. disk.holds h (asks.holds ∙ held) ∙ ap Some (sym (none_left E command.store h));
    later = omega (arith, asks.later, disk.later);
    handed = none_opened state command.store old.holds;
  };
})

-- the count of disks that were handed out, from another equal to it
counted_from : {E : Type 0} (o m n : ℕ) (object : Option E) → Counted m n object → m ≡ o → Counted o n object
counted_from o m n object counted is = subst (λ (x : ℕ). Counted x n object) is counted

-- what is asked of the host where the disk is there, or none is named
starts : {E : Type 0} (state : E → DiskState) (command : AnswerCommand) (old a b new : HostState) (opened : Option E)
    → AsksForFile command.accounts old a → AsksForStore state command.store a b (Ok opened) → new ≡ b
    → Starts state command old new opened
starts state command old a b new opened asks disk same = subst (λ (s : HostState). Starts state command old s opened) (sym same) (record {
  between = a.calls;
  file = asks.calls;
  disk = disk.calls;
  disks = counted_from old.handed.disks a.handed.disks b.handed.disks opened disk.disks (ap (λ h. h.disks) asks.handed);
  links = disk.links ∙ ap (λ h. h.links) asks.handed;
  listeners = disk.listeners ∙ ap (λ h. h.listeners) asks.handed;
  holds = λ h held. disk.holds h (asks.holds ∙ held);
  later = omega (arith, asks.later, disk.later);
  handed = subst (λ (o : Option Holdings). IsOpened state command.store o opened) asks.holds disk.opened;
})

pub no_store_start : {E : Type 0} (state : E → DiskState) (command : AnswerCommand) (old a b new : HostState) (shown opened disk : Option E)
    (reason : NoSession) (listed : Known) → shown ≡ opened → AreAccounts command.accounts old.holds listed
    → AsksForFile command.accounts old a → AsksForStore state command.store a b (Ok opened) → new ≡ b
    → IsRefusedAs state opened disk reason → HasNoStart state command old new shown disk reason
no_store_start {E} state command old a b new shown opened disk reason listed is are asks handed same refused = subst (λ (o : Option E). HasNoStart state command old new o disk reason) (sym is) (record {
  has = store_reason state command old new opened disk reason refused;
  accounts = λ of. (listed, are);
  alone = refused_alone state opened disk reason refused;
  starts = starts state command old a b new opened asks handed same;
})

pub has_started : {D : Type 0} (g : Ghosts D) (command : AnswerCommand) (offers : Offered) (old a b new : HostState) (shown opened : Option D)
    (first : Seen D g) (setting own : Setting) (limits : Limits) → shown ≡ opened → setting ≡ own → IsSetUp command old.holds offers own limits
    → AsksForFile command.accounts old a → AsksForStore g.state command.store a b (Ok opened) → new ≡ b
    → Opens opened first.journal first.contents → first.closed ≡ None
    → HasStarted {g = g} command offers old new shown first setting limits
has_started {D} g command offers old a b new shown opened first setting own limits is same_setting set_up asks handed same opens not_closed =
    subst (λ (w : Option D × Setting). HasStarted {g = g} command offers old new w.0 first w.1 limits) (λ i. (sym is i, sym same_setting i)) (record {
      set_up = set_up;
      opens = opens;
      not_closed = not_closed;
      there = handed.there;
      starts = starts g.state command old a b new opened asks handed same;
    })
