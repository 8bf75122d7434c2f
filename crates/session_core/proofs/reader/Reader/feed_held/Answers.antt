use Rattle.session_core.proofs.Flow.{held_framed}
use Rattle.session_core.proofs.reader.Reader.feed_held.Goals as goal

pub returns-clause-fed : goal.returns-clause-fed
returns-clause-fed c =
    held_framed c.feed-fed.result.1 c.self.inside.start c.self.inside.end c.feed-fed.result.0 c.self.inside.buffer.items
    c.deref.result.now c.args.self.now c.args.decoder.now c.feed-fed.new.self
    c.deref.ensures.value c.self.view_is c.self.invariant.1 c.feed-fed.ensures.used c.feed-fed.ensures.feeds
    c.feed-fed.ensures.framing
