use Rattle.std.proofs.Common.{◌≡◌, inl, true, false, drop, refl, sym, ap, ◌∙◌, arith}
use Rattle.dobj_field.proofs.PointerLemmas.{rest_is}
use Rattle.query_text.specs.Reading.{goes_on}
use Rattle.query_text.proofs.ScanLemmas.{scan_byte, scan_backslash, going, plain_going, stopped, scan_text}
use Rattle.query_text.proofs.scanning.scan.Goals as goal
use Rattle.query_text.proofs.scanning.scan.Goals.{else-not-taking-via-then-not-taking+else-byte-eq92, else-not-taking-via-else-not-taking}

pub loop-within-preserved-then-byte-eq92 : goal.loop-within-preserved-then-byte-eq92
loop-within-preserved-then-byte-eq92 c =
    let l = c.loop-within in
    let text = c.args.bytes.now in
    let on : goes_on c.args.within l.taking (drop l.len text) ≡ true =
    ap (goes_on c.args.within l.taking) (sym (rest_is text l.len))
    ∙ (sym c.goes_on.ensures ∙ c.loop-within-test.true) in
    let next = going c.args.within l.taking text l.len (drop l.len text) refl on in
    let flag : l.taking ≡ false = grind arith in
    scan_backslash c.args.within text l.len l.text.items l.taking flag l.invariant next.0 c.if-byte-eq92.true

pub loop-within-preserved : goal.loop-within-preserved
loop-within-preserved c =
    let l = c.loop-within in
    let text = c.args.bytes.now in
    let on : goes_on c.args.within l.taking (drop l.len text) ≡ true =
    ap (goes_on c.args.within l.taking) (sym (rest_is text l.len))
    ∙ (sym c.goes_on.ensures ∙ c.loop-within-test.true) in
    let next = going c.args.within l.taking text l.len (drop l.len text) refl on in
    rw c.in_ok-push.ensures.items (elim c.else-not-taking.branch [
      | else-not-taking-via-then-not-taking+else-byte-eq92 w ↦ scan_byte c.args.within
          text l.len l.text.items l.taking l.invariant next.0 (plain_going _ _ _ next.1 w.if-byte-eq92.false)
      | else-not-taking-via-else-not-taking w ↦ scan_byte c.args.within
          text l.len l.text.items l.taking l.invariant next.0 (inl (grind arith))
    ])

pub str_of-requires : goal.str_of-requires
str_of-requires c =
    let l = c.loop-within in
    let text = c.args.bytes.now in
    let off : goes_on c.args.within l.taking (drop l.len text) ≡ false =
    ap (goes_on c.args.within l.taking) (sym (rest_is text l.len))
    ∙ (sym c.goes_on.ensures ∙ c.loop-within-test.false) in
    scan_text c.args.within l.text.items (drop l.len text)
    (stopped c.args.within l.taking (drop l.len text) off).0 l.invariant.utf8

pub returns : goal.returns
returns c =
    let l = c.loop-within in
    let text = c.args.bytes.now in
    let off : goes_on c.args.within l.taking (drop l.len text) ≡ false =
    ap (goes_on c.args.within l.taking) (sym (rest_is text l.len))
    ∙ (sym c.goes_on.ensures ∙ c.loop-within-test.false) in
    let end = stopped c.args.within l.taking (drop l.len text) off in
    record {
      fits = l.invariant.fits;
      text = c.str_of.ensures ∙ l.invariant.text_is;
      flag = l.invariant.flag;
      stop = end.0;
      open_end = end.1;
    }
