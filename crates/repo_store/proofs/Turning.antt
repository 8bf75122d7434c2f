-- One turn, exit by exit.
use Rattle.std.proofs.Common.{◌≡◌, ℕ, ◌-◌, ◌^◌, ◌≤◌, min, List, ◌++◌, Option, Some, None, IsSome, refl, sym, ap, subst, arith}
use Rattle.base_core.specs.Causes.{Rose}
use Rattle.disk_core.specs.declared.disk.Disk.{Ghosts}
use Rattle.doip_message.specs.Reply.{reply_text}
use Rattle.doip_segment.specs.Segments.{Segment}
use Rattle.journal_core.specs.declared.journal.Journal.{Journal}
use Rattle.link_core.specs.Listener.{GivesTime}
use Rattle.repo_state.specs.Contents.{Contents}
use Rattle.repo_step.specs.declared.brought.Brought.{Brought}
use Rattle.repo_step.specs.declared.outcome.Outcome.TheVariants.{Done, NoMemory, DiskFault, Closed}
use Rattle.repo_step.specs.Setting.{Setting, state}
use Rattle.repo_step.specs.Step.{after_change, step}
use Rattle.journal_core.specs.declared.records.Record.{Record}
use Rattle.repo_store.specs.Saved.{room_in, moment_in, faults_in, Reports, KeepsRecords, LeavesBetween}
use Rattle.repo_store.specs.Stands.{Stands, StandsEither}
use Rattle.repo_store.specs.Store.{seen, entry_of, record_of, KeepsContents, Turns, text_with}
use Rattle.repo_store.proofs.Keeping.{not_both, still, now_stands}

module _ {D : Type 0} (g : Ghosts D) (setting : Setting) (lane session : ℕ) (message : List Segment) (brought : Brought) (old : Option (Journal D g)) (c : Contents) (given after_given : Option (List ℕ)) (time : GivesTime given after_given brought.time) where
  pub closed_turn : (closed : Option ℕ) (made : List ℕ) → IsSome closed
      → Turns setting (seen old c closed given) (entry_of lane session message Closed (moment_in old) brought) (text_with Closed made) (seen old c closed after_given)
  closed_turn closed made is = record {
    time = time;
    text_is = refl;
    state_is = refl;
    moment = refl;
    clock = omega arith;
    count = omega arith;
    ends = (is, refl, refl);
    reported = λ reports. reports;
    unchanged = λ none. refl;
    saved = λ done. absurd (cc);
    ready = λ ready. ready;
    crash = λ ready open_is. absurd (not_both closed open_is is);
    durable = λ ready done. absurd (cc);
  }

  pub memory_turn : (closed : Option ℕ) (new : Option (Journal D g)) (d : Contents) (made : List ℕ) → closed ≡ None → new ≡ old → d ≡ c
      → Turns setting (seen old c closed given) (entry_of lane session message NoMemory (moment_in new) brought) (text_with NoMemory made) (seen new d closed after_given)
  memory_turn closed new d made open_is same stays = record {
    time = time;
    text_is = refl;
    state_is = cc;
    moment = refl;
    clock = omega (arith, ap (λ (j : Option (Journal D g)). moment_in j) same);
    count = omega (arith, ap (λ (j : Option (Journal D g)). faults_in j) same);
    ends = (open_is, open_is, same);
    reported = λ reports. subst (λ (j : Option (Journal D g)). Reports j) same reports;
    unchanged = λ none. same;
    saved = λ done. absurd (cc);
    ready = λ ready is. subst (λ (j : Option (Journal D g)). KeepsContents j d) (sym same) (subst (λ (e : Contents). KeepsContents old e) (sym stays) (ready is));
    crash = λ ready is reports. subst (λ (j : Option (Journal D g)). LeavesBetween old j (λ image. Stands image c)) (sym same)
        (still g old c (ready is) (subst (λ (j : Option (Journal D g)). Reports j) same reports) (λ image. Stands image c) (λ image stands. stands));
    durable = λ ready done. absurd (cc);
  }

  module _ (closed : Option ℕ) (open_is : closed ≡ None) (new : Option (Journal D g)) (d : Contents) (clock : moment_in old ≤ moment_in new) (count : faults_in old ≤ faults_in new) (reported : Reports new → Reports old)
      (unchanged : (step setting brought (state c (room_in old)) message).change ≡ None → new ≡ old)
      (crash : Reports new → KeepsContents old c → LeavesBetween old new (StandsEither c (after_change brought (step setting brought (state c (room_in old)) message).change (state c (room_in old))).contents)) where
    pub done_turn : (made : List ℕ) → made ≡ reply_text (step setting brought (state c (room_in old)) message).reply
        → state d (room_in new) ≡ after_change brought (step setting brought (state c (room_in old)) message).change (state c (room_in old))
        → ((kept : List Record) → KeepsRecords old kept → KeepsRecords new (kept ++ record_of brought (state c (room_in old)) (step setting brought (state c (room_in old)) message).change))
        → (KeepsContents old c → KeepsContents new d)
        → Turns setting (seen old c closed given) (entry_of lane session message Done (moment_in new) brought) (text_with Done made) (seen new d closed after_given)
    done_turn made text_is state_is saved keeps = record {
      time = time;
      text_is = text_is;
      state_is = state_is;
      moment = refl;
      clock = clock;
      count = count;
      ends = (open_is, open_is);
      reported = reported;
      unchanged = unchanged;
      saved = λ done. saved;
      ready = λ ready is. keeps (ready is);
      crash = λ ready is reports. crash reports (ready is);
      durable = λ ready done reports. now_stands g new d (keeps (ready open_is)) reports;
    }

    pub fault_turn : (made : List ℕ) (faults : ℕ) → state d (room_in new) ≡ state c (room_in old)
        → IsSome old × (faults ≡ min (faults_in new) (2 ^ 64 - 1)) × Rose (faults_in old) (faults_in new) × IsSome (step setting brought (state c (room_in old)) message).change
        → Turns setting (seen old c closed given) (entry_of lane session message DiskFault (moment_in new) brought) (text_with DiskFault made) (seen new d (Some faults) after_given)
    fault_turn made faults stays cause = record {
      time = time;
      text_is = refl;
      state_is = stays;
      moment = refl;
      clock = clock;
      count = count;
      ends = (open_is, ap Some cause.1, cause.2, cause.3, cause.0);
      reported = reported;
      unchanged = unchanged;
      saved = λ done. absurd (cc);
      ready = λ ready is. absurd (cc);
      crash = λ ready is reports. crash reports (ready is);
      durable = λ ready done. absurd (cc);
    }
