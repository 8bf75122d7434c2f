use Rattle.std.proofs.Common.{◌<◌}
use Rattle.doip_json.specs.Meaning.{value_of}
use Rattle.schema_core.specs.declared.word.SchemaWord.{SchemaWord}
use Rattle.schema_core.specs.Failing.{FailsHere}
use Rattle.schema_core.specs.First.{turn_of}
use Rattle.schema_core.proofs.words.Words.failure.Given as goal

abbrev pub invariant-loop-word : goal.invariant-loop-word
invariant-loop-word l = (w : SchemaWord) → turn_of w < l.word-index → ¬ (FailsHere l.self (value_of l.value) w)
