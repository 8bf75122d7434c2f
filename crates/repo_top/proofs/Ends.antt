-- How `init` and `check` end.
use Rattle.std.proofs.Common.{◌≡◌, ℕ, List, Option, None, Result, Ok, Err, refl, sym, ap, subst, ◌∙◌}
use Rattle.std.specs.FinMap as finite
use Rattle.disk_core.specs.Disk.{DiskState}
use Rattle.disk_core.specs.declared.disk.Disk.{Ghosts}
use Rattle.journal_core.specs.Init.{MakesFile, IsInitRefused}
use Rattle.journal_core.specs.Journal.{state_of, area_of, side_of, used_of, told}
use Rattle.journal_core.specs.declared.create.InitFault.{InitFault}
use Rattle.journal_core.specs.declared.create.InitFault.TheVariants as init_faults
use Rattle.journal_core.specs.declared.journal.Journal.{Journal}
use Rattle.link_core.specs.Link.{SinkState}
use Rattle.link_core.specs.Host.{HostState, HandsOutDisk}
use Rattle.link_core.specs.declared.host.HostFault.{HostFault}
use Rattle.link_core.specs.declared.host.HostFault.TheVariants as host_faults
use Rattle.repo_state.specs.Contents.{Contents}
use Rattle.repo_store.specs.Opening.{OpensFile, IsRefusedFor}
use Rattle.repo_store.specs.declared.fault.StoreFault.{StoreFault}
use Rattle.repo_store.specs.declared.fault.StoreFault.TheVariants as store_faults
use Rattle.repo_top.specs.declared.check.Numbers.{Numbers}
use Rattle.repo_top.specs.declared.file_run.FileEnd.{FileEnd}
use Rattle.repo_top.specs.declared.file_run.FileEnd.TheVariants as ends
use Rattle.repo_top.specs.Rewrites.{RewriteLeaves, end_of_rewrite}
use Rattle.store_files.specs.declared.fault.RewriteFault.{RewriteFault}
use Rattle.store_files.specs.declared.fault.RewriteFault.TheVariants as rewrites
use Rattle.repo_top.specs.Files.{Prints, IsOfPrinting, end_of_host, handed, IsOfHost, HandsBack, end_of_init, InitLeaves, IsChecked, end_of_store, CheckLeaves}

handed_none : {D : Type 0} (fault : HostFault) → handed {D = D} None (end_of_host fault) ≡ Err fault
handed_none host_faults.Failed = refl
handed_none host_faults.Memory = refl

of_host : (fault : HostFault) → IsOfHost (end_of_host fault)
of_host host_faults.Failed = tt
of_host host_faults.Memory = tt

none_printed : (fault : HostFault) (text : List ℕ) (s : SinkState) → Prints (end_of_host fault) text s s
none_printed host_faults.Failed text s = refl
none_printed host_faults.Memory text s = refl

-- a run whose host handed no disk out printed nothing
pub host_unprinted : (fault : HostFault) (end : FileEnd) → end ≡ end_of_host fault → (text : List ℕ) (s : SinkState)
    → Prints end text s s
host_unprinted fault end is text s = subst (λ (e : FileEnd). Prints e text s s) (sym is) (none_printed fault text s)

module _ {D : Type 0} (state : D → DiskState) (fault : HostFault) (opened : Option D) (end : FileEnd)
    (none : opened ≡ None) (is : end ≡ end_of_host fault) where
  -- its end says why
  pub host_refused : (path : List ℕ) (old new : HostState) → HandsOutDisk state path old new (Err fault)
      → HandsOutDisk state path old new (handed opened end)
  host_refused path old new hands =
      subst (λ (r : Result D HostFault). HandsOutDisk state path old new r)
      (sym (ap (λ (o : Option D). handed o end) none ∙ ap (λ (e : FileEnd). handed {D = D} None e) is
      ∙ handed_none fault)) hands

  -- and it handed none back
  pub none_handed_back : (Leaves : FileEnd → DiskState → DiskState → Type 0) (disk : Option D) → disk ≡ None
      → HandsBack state Leaves end opened disk
  none_handed_back Leaves disk no_disk =
      subst (λ (p : Option D × Option D × FileEnd). HandsBack state Leaves p.2 p.0 p.1)
      (λ i. (sym none i, sym no_disk i, sym is i)) (of_host fault)

-- a file that was made, whether its line is printed or not
pub init_done : (area : ℕ) (end : FileEnd) (before after : DiskState) → IsOfPrinting end → MakesFile before after area
    → InitLeaves area end before after
init_done area ends.Done before after of made = made
init_done area ends.Out before after of made = made
init_done area ends.Host before after of made = absurd of
init_done area ends.Memory before after of made = absurd of
init_done area (ends.Disk count) before after of made = absurd of
init_done area (ends.Store fault) before after of made = absurd of
init_done area (ends.Full used asked) before after of made = absurd of
init_done area (ends.NotEmpty n) before after of made = absurd of

-- a file that was not made
pub init_refused : (area : ℕ) (before after : DiskState) (fault : InitFault) (count : ℕ) → count ≡ told after.faults
    → IsInitRefused before after fault → InitLeaves area (end_of_init count fault) before after
init_refused area before after (init_faults.NotEmpty n) count is refused = refused
init_refused area before after init_faults.DiskFault count is refused = (refused, is)

pub init_unprinted : (fault : InitFault) (count : ℕ) (text : List ℕ) (s : SinkState)
    → Prints (end_of_init count fault) text s s
init_unprinted (init_faults.NotEmpty n) count text s = refl
init_unprinted init_faults.DiskFault count text s = refl

-- a file that was checked, whether its lines are printed or not
pub check_done : (n : Numbers) (end : FileEnd) (before after : DiskState) → IsOfPrinting end → IsChecked n before after
    → CheckLeaves n end before after
check_done n ends.Done before after of checked = checked
check_done n ends.Out before after of checked = checked
check_done n ends.Host before after of checked = absurd of
check_done n ends.Memory before after of checked = absurd of
check_done n (ends.Disk count) before after of checked = absurd of
check_done n (ends.Store fault) before after of checked = absurd of
check_done n (ends.Full used asked) before after of checked = absurd of
check_done n (ends.NotEmpty m) before after of checked = absurd of

-- a file that was refused
pub check_refused : (n : Numbers) (before after : DiskState) (fault : StoreFault) (count : ℕ) → count ≡ told after.faults
    → IsRefusedFor before after fault → CheckLeaves n (end_of_store count fault) before after
check_refused n before after store_faults.NotAStore count is refused = (tt, refused)
check_refused n before after (store_faults.Version byte) count is refused = (tt, refused)
check_refused n before after (store_faults.Damaged place) count is refused = (tt, refused)
check_refused n before after (store_faults.Unsound id) count is refused = (tt, refused)
check_refused n before after store_faults.DiskFault count is refused = (refused, is)
check_refused n before after store_faults.Memory count is refused = refused.alone

pub check_unprinted : (fault : StoreFault) (count : ℕ) (text : List ℕ) (s : SinkState)
    → Prints (end_of_store count fault) text s s
check_unprinted store_faults.NotAStore count text s = refl
check_unprinted (store_faults.Version byte) count text s = refl
check_unprinted (store_faults.Damaged place) count text s = refl
check_unprinted (store_faults.Unsound id) count text s = refl
check_unprinted store_faults.DiskFault count text s = refl
check_unprinted store_faults.Memory count text s = refl

-- a file that was written anew, or not
module _ {T : Type 0} (Does : DiskState → DiskState → Result T RewriteFault → Type 0) (done : T) (before after : DiskState) where
  pub rewrite_done : (end : FileEnd) → IsOfPrinting end → Does before after (Ok done) → RewriteLeaves Does done end before after
  rewrite_done ends.Done of does = does
  rewrite_done ends.Out of does = does
  rewrite_done ends.Host of does = absurd of
  rewrite_done ends.Memory of does = absurd of
  rewrite_done (ends.Disk count) of does = absurd of
  rewrite_done (ends.Store fault) of does = absurd of
  rewrite_done (ends.Full used asked) of does = absurd of
  rewrite_done (ends.NotEmpty n) of does = absurd of

  rewrite_left : (fault : RewriteFault) (count : ℕ) → count ≡ told after.faults → Does before after (Err fault)
      → RewriteLeaves Does done (end_of_rewrite count fault) before after
  rewrite_left (rewrites.Full used asked) count is does = does
  rewrite_left (rewrites.Store store_faults.NotAStore) count is does = (tt, does)
  rewrite_left (rewrites.Store (store_faults.Version byte)) count is does = (tt, does)
  rewrite_left (rewrites.Store (store_faults.Damaged place)) count is does = (tt, does)
  rewrite_left (rewrites.Store (store_faults.Unsound id)) count is does = (tt, does)
  rewrite_left (rewrites.Store store_faults.DiskFault) count is does = (does, is)
  rewrite_left (rewrites.Store store_faults.Memory) count is does = does

  pub rewrite_refused : (fault : RewriteFault) (count : ℕ) → count ≡ told after.faults → Does before after (Err fault) → (end : FileEnd)
      → end ≡ end_of_rewrite count fault → RewriteLeaves Does done end before after
  rewrite_refused fault count is does end end_is =
      subst (λ (e : FileEnd). RewriteLeaves Does done e before after) (sym end_is) (rewrite_left fault count is does)

unprinted : (fault : RewriteFault) (count : ℕ) (text : List ℕ) (s : SinkState) → Prints (end_of_rewrite count fault) text s s
unprinted (rewrites.Full used asked) count text s = refl
unprinted (rewrites.Store fault) count text s = check_unprinted fault count text s

pub rewrite_unprinted : (fault : RewriteFault) (count : ℕ) (text : List ℕ) (s : SinkState) (end : FileEnd) → end ≡ end_of_rewrite count fault → Prints end text s s
rewrite_unprinted fault count text s end is = subst (λ (e : FileEnd). Prints e text s s) (sym is) (unprinted fault count text s)

-- the numbers of a journal and of the contents that it stands for are those of its file
module _ {D : Type 0} {g : Ghosts D} (before : DiskState) (j : Journal D g) (c : Contents) (n : Numbers)
    (opens : OpensFile before j c) (objects : n.objects ≡ finite.len c.objects) (counter : n.counter ≡ c.counter)
    (number : n.number ≡ c.number) (used : n.used ≡ used_of j) (area : n.area ≡ area_of j) (side : n.side ≡ side_of j) where
  pub file_checked : IsChecked n before (state_of j)
  file_checked = record {
    stands = λ file is.
        let stands = opens.stands file is in
        record {
          contents = c;
          objects = objects;
          counter = counter;
          number = number;
          records = stands.0;
          give = stands.1;
          holds = rw (area, side) stands.2;
          used = used ∙ stands.3;
        };
    alone = opens.alone;
  }
