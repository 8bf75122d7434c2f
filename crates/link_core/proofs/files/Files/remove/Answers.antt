use Rattle.std.proofs.Common.{◌∙◌, ℕ, List, ap, sym}
use Rattle.std.specs.String.{string_bytes}
use Rattle.link_core.specs.Host.{files_without, is_path}
use Rattle.link_core.specs.Paths.{files_in}
use Rattle.link_core.proofs.Named.{remove_named}
use Rattle.link_core.proofs.files.Files.remove.Goals as goal

-- src/files.rt:56:5
pub returns : goal.returns
returns c =
    ap files_in c.remove.ensures.entries
    ∙ sym (remove_named string_bytes (is_path c.args.path.now) c.self.inside.entries.entries)
    ∙ ap (λ (files : List (List ℕ × List ℕ)). files_without c.args.path.now files) c.self.view_is
