use Rattle.std.proofs.Common.{◌∙◌, ℕ, List, ap, sym}
use Rattle.std.specs.String.{string_bytes}
use Rattle.link_core.specs.Host.{file_at, is_path}
use Rattle.link_core.proofs.Named.{lookup_named}
use Rattle.link_core.proofs.files.Files.find.Goals as goal

-- src/files.rt:49:5
pub returns : goal.returns
returns c =
    c.get.ensures.value ∙ sym (lookup_named string_bytes (is_path c.args.path.now) c.self.inside.entries.entries)
    ∙ ap (λ (files : List (List ℕ × List ℕ)). file_at c.args.path.now files) c.self.view_is
