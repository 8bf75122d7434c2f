use Rattle.std.proofs.Common.{◌∙◌, ℕ, List, ap, sym}
use Rattle.std.specs.Map.{lookup}
use Rattle.std.specs.String.{string_bytes}
use Rattle.std.specs.Cmp.Lexicographic.{slice_cmp}
use Rattle.std.specs.Ordering.{nat_cmp}
use Rattle.link_core.specs.Host.{is_path, files_with}
use Rattle.link_core.specs.Paths.{files_in}
use Rattle.link_core.proofs.Named.{lookup_named, insert_named}
use Rattle.link_core.proofs.files.Files.put.Goals as goal

pub returns-clause-ok : goal.returns-clause-ok
returns-clause-ok c =
    lookup_named string_bytes (is_path c.args.path.now) c.insert.new.self.entries
    ∙ ap (λ (path : List ℕ). lookup (λ k. is_path path (string_bytes k)) c.insert.new.self.entries)
    (sym c.in_ok-path.ensures.ok) ∙ c.in_ok-insert.ensures.updates.1

pub returns-clause-files : goal.returns-clause-files
returns-clause-files c =
    ap files_in c.in_ok-insert.ensures.entries
    ∙ sym (insert_named string_bytes (slice_cmp nat_cmp) c.self.inside.entries.entries c.in_ok-path.path c.args.bytes)
    ∙ ap (λ (path : List ℕ). files_with path c.args.bytes (files_in c.self.inside.entries.entries))
    c.in_ok-path.ensures.ok
    ∙ ap (λ (files : List (List ℕ × List ℕ)). files_with c.args.path.now c.args.bytes files) c.self.view_is
