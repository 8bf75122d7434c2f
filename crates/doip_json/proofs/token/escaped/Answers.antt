use Rattle.std.proofs.Common.{refl}
use Rattle.std.proofs.lemmas.Str.{IsUtf8-past_char}
use Rattle.doip_json.proofs.Named.{one_letter}
use Rattle.doip_json.proofs.token.escaped.Goals as goal

pub loop-letter-preserved : goal.loop-letter-preserved
loop-letter-preserved c =
    let held = c.loop-letter.invariant in
    let cut = c.in-Some.ensures.steps.0 in
    record {
      utf8 = IsUtf8-past_char _ _ c.in-Some.letter held.utf8 cut;
      written = one_letter c.in-Some.letter _ _ _ _ _ _ c.in_ok-push_letter.ensures refl cut held.written;
    }
