use Rattle.std.proofs.Common.{◌≡◌, ◌<◌, List, length, reverse, take, sym, ◌∙◌, ap, subst, arith, rules}
use Rattle.std.proofs.lemmas.List.{take_all}
use Rattle.std.specs.List.{All}
use Rattle.disk_core.specs.Past.{file_by, file_after, IsImage}
use Rattle.disk_core.specs.declared.calls.Noted.{Noted}
use Rattle.disk_core.proofs.TornLemmas.{all_left, longer, with_file, has_last}
use Rattle.disk_core.specs.PastLaws.{memory_reports}
use Rattle.disk_core.proofs.memory.MemoryDisk.images.Goals as goal

pub calls-preserved : goal.calls-preserved
calls-preserved c =
    let start = c.args.self.now.start.items in
    let calls = c.args.self.now.log.calls.items in
    let noted = c.noted-item.result in
    let within : c.calls.noted-index < length calls = search rules in
    let next = longer calls c.calls.noted-index noted within (search rules) in
    record {
      file = c.in_ok-images.ensures.file ∙ ap (file_by noted.call noted.done noted.place noted.bytes) c.calls.invariant.file ∙ ap (file_after start) (sym next);
      left = subst (λ (history : List Noted). All (IsImage start history) c.in_ok-images.images) (sym next)
          (all_left start (reverse (take c.calls.noted-index calls)) noted c.calls.images c.in_ok-images.images c.calls.file.items c.calls.invariant.file c.calls.invariant.left c.in_ok-images.ensures.images);
    }

pub returns-clause-images : goal.returns-clause-images
returns-clause-images c =
    let calls = c.args.self.now.log.calls.items in
    let end : c.calls.noted-index ≡ length calls = search rules in
    with_file c.args.self.now.start.items calls c.calls.noted-index c.calls.images c.push-2.new.self c.calls.file.items c.in_ok-of-2.field-0 end c.calls.invariant.file c.calls.invariant.left
    (c.in_ok-of-2.ensures ∙ c.deref-3.ensures.value) c.in_ok-push-2.ensures.ok

pub returns-clause-file : goal.returns-clause-file
returns-clause-file c = λ told tells.
    let was = c.args.self.now in
    let calls = was.log.calls.items in
    let end : c.calls.noted-index ≡ length calls = search rules in
    let all : take c.calls.noted-index calls ≡ calls = take_all c.calls.noted-index calls (omega (arith, end)) in
    let same : told ≡ c.calls.file.items = memory_reports was.starved was.start.items calls was.file.items told was.reads tells ∙ ap (λ (l : List Noted). file_after was.start.items (reverse l)) (sym all) ∙ sym c.calls.invariant.file in
    has_last c.calls.images c.push-2.new.self told c.in_ok-of-2.field-0 (same ∙ sym (c.in_ok-of-2.ensures ∙ c.deref-3.ensures.value)) c.in_ok-push-2.ensures.ok
