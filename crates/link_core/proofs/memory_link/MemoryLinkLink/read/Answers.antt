use Rattle.std.proofs.Common.{◌≤◌, ◌+◌, length, drop, arith, rules, length-append, length-drop}
use Rattle.std.proofs.lemmas.List.{drop_all}
use Rattle.link_core.proofs.Copied.{IsNext, next_range, given_grows, left_falls}
use Rattle.link_core.proofs.memory_link.MemoryLinkLink.read.Goals as goal

pub returns-clause-link : goal.returns-clause-link
returns-clause-link c =
    let given = c.args.self.now.given in
    let bytes = c.args.self.now.bytes.items in
    let count = c.min-count.result in
    let copied = c.copy_from_slice.new.self in
    let rest = drop count c.args.into.now in
    let enough : count ≤ length (drop given bytes) = omega (arith, length-drop given bytes) in
    let next : IsNext given count bytes copied =
    next_range _ _ _ _ _ c.copy_from_slice.ensures.after c.deref.ensures.value enough in
    record {
      bound = search rules;
      taken = given_grows given count bytes copied rest next;
      left = (
        left_falls given count bytes copied rest next,
        λ none room. drop_all (given + count) bytes
            (omega (arith, next.long, length-append copied rest, length-drop count c.args.into.now)),
      );
      reads = search rules;
      few = search rules;
      written = search rules;
      closed = search rules;
      cause = search rules;
    }
