use Rattle.std.specs.List.{All}
use Rattle.disk_core.specs.Torn.{IsTornOf, IsImageBy}
use Rattle.std.proofs.Common.{List, ℕ, length}
use Rattle.disk_core.proofs.TornLemmas.{left_by_write, on_each}
use Rattle.disk_core.proofs.torn.images_after.Goals as goal

pub returns-in_ok-overwrite-in-WriteAt-true-clause-images : goal.returns-in_ok-overwrite-in-WriteAt-true-clause-images
returns-in_ok-overwrite-in-WriteAt-true-clause-images c =
    let noted = c.args.noted.now in
    left_by_write noted.call noted.done noted.place noted.bytes c.get.result.now c.args.file.now.items c.args.before.now c.in_ok-images-in-WriteAt-true.images c.in-WriteAt-true.is-0 c.get.ensures c.in_ok-images-in-WriteAt-true.ensures

pub returns-in-WriteAt-false-clause-images : goal.returns-in-WriteAt-false-clause-images
returns-in-WriteAt-false-clause-images c =
    let noted = c.args.noted.now in
    on_each (λ (images : List (List ℕ)). All (IsTornOf c.args.before.now noted.place (length c.get-in-WriteAt-false.result.now)) images) (λ (images : List (List ℕ)). All (IsImageBy noted c.args.file.now.items c.args.before.now) images)
    c.torn_images-in-WriteAt-false.result
    (λ images all. left_by_write noted.call noted.done noted.place noted.bytes c.get-in-WriteAt-false.result.now c.args.file.now.items c.args.before.now images c.in-WriteAt-false.is-0 c.get-in-WriteAt-false.ensures all)
    c.torn_images-in-WriteAt-false.ensures
