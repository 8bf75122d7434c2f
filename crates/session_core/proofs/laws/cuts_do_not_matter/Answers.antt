use Rattle.session_core.proofs.Transcripts.{same_messages, same_written, same_end, fewer_messages, written_prefix}
use Rattle.session_core.proofs.laws.cuts_do_not_matter.Goals as goal

pub returns-clause-messages : goal.returns-clause-messages
returns-clause-messages c = same_messages c.each_stream_has_one_framing.ensures.only

pub returns-clause-written : goal.returns-clause-written
returns-clause-written c = same_written c.each_stream_has_one_framing.ensures.only

pub returns-clause-end : goal.returns-clause-end
returns-clause-end c = same_end c.each_stream_has_one_framing.ensures.only c.each_stream_breaks_once.ensures

pub returns-clause-fewer_messages : goal.returns-clause-fewer_messages
returns-clause-fewer_messages c = fewer_messages c.each_stream_has_one_framing.ensures.only

pub returns-clause-prefix : goal.returns-clause-prefix
returns-clause-prefix c = written_prefix c.each_stream_has_one_framing.ensures.only
