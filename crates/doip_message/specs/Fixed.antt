-- The replies whose texts are fixed. This project's own.
use Rattle.std.specs.Prelude.{None, codes}
use Rattle.doip_message.specs.declared.response.Status.TheVariants.{Invalid, Other500}
use Rattle.doip_message.specs.Reply.{Replied, refusal}

-- the reply of a turn that ran out of memory
abbrev pub memory_reply : Replied
memory_reply = refusal None Other500 (codes "want of memory")

-- the reply of the turn in which the disk failed
abbrev pub disk_reply : Replied
disk_reply = refusal None Other500 (codes "disk fault")

-- the reply of each turn after a disk fault
abbrev pub closed_reply : Replied
closed_reply = refusal None Other500 (codes "store closed")

-- the last reply of a session whose bytes frame no message
abbrev pub framing_reply : Replied
framing_reply = refusal None Invalid (codes "framing fault")
