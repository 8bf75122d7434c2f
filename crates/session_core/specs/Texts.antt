-- The bytes of a reply, in a buffer or a constant.
use Rattle.std.specs.Prelude.{ℕ, List}
use Rattle.session_core.specs.declared.responder.Reply.{Reply}
use Rattle.session_core.specs.declared.responder.Reply.TheVariants.{Made, Constant}

-- the bytes of a reply: what was made in the buffer, or the constant
abbrev pub reply_bytes : List ℕ → Reply → List ℕ
reply_bytes made Made = made
reply_bytes made (Constant text) = text.now
