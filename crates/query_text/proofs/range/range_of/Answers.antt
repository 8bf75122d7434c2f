use Rattle.std.proofs.Common.{◌≡◌, Err, ap, refl, sym, subst, arith}
use Rattle.query_text.specs.declared.fault.QueryFault.TheVariants.{At}
use Rattle.query_text.specs.Reading.{BreaksValue}
use Rattle.query_text.proofs.RangeReads.{range_begins, white_read, low_read, gap_read, to_read, later_gap_read, high_read, closing_white, close_read, low_fails, gap_fails, to_fails, later_gap_fails, high_fails, close_fails, range_value, err_same}
use Rattle.query_text.proofs.range.range_of.Goals as goal

pub returns-in_err-low-clause-place : goal.returns-in_err-low-clause-place
returns-in_err-low-clause-place c place is =
    let text = c.args.bytes.now in
    let s2 = white_read text 1 c.white_end-start.result (range_begins text c.requires) c.white_end-start.ensures in
    let fault = c.in_err-low.field-0.0 in
    let failed : c.from_residual.result ≡ Err fault = grind arith in
    let same = err_same c.from_residual.result fault (At place) failed is in
    low_fails text c.white_end-start.result place s2 (c.in_err-low.ensures.place place (ap Err same))

pub returns-in_err-to-clause-place : goal.returns-in_err-to-clause-place
returns-in_err-to-clause-place c place is =
    let text = c.args.bytes.now in
    let s2 = white_read text 1 c.white_end-start.result (range_begins text c.requires) c.white_end-start.ensures in
    let s3 = low_read text c.white_end-start.result c.in_ok-low.low_end c.in_ok-low.low s2 c.in_ok-low.ensures.bound in
    let fault = c.in_err-to.field-0.0 in
    let failed : c.from_residual-in_err-to.result ≡ Err fault = grind arith in
    let same = err_same c.from_residual-in_err-to.result fault (At place) failed is in
    let said = c.in_err-to.ensures.place place (ap Err same) in
    subst (λ p. BreaksValue text p) (sym said.0) (gap_fails text c.in_ok-low.low_end c.in_ok-low.low_end s3 said.1 refl)

pub returns-in_err-gap-clause-place : goal.returns-in_err-gap-clause-place
returns-in_err-gap-clause-place c place is =
    let text = c.args.bytes.now in
    let s2 = white_read text 1 c.white_end-start.result (range_begins text c.requires) c.white_end-start.ensures in
    let s3 = low_read text c.white_end-start.result c.in_ok-low.low_end c.in_ok-low.low s2 c.in_ok-low.ensures.bound in
    let s4 = gap_read text c.in_ok-low.low_end c.in_ok-to.to s3 c.in_ok-to.ensures.end.0 c.in_ok-to.ensures.end.1 in
    let fault = c.in_err-gap.field-0.0 in
    let failed : c.from_residual-in_err-gap.result ≡ Err fault = grind arith in
    let same = err_same c.from_residual-in_err-gap.result fault (At place) failed is in
    to_fails text c.in_ok-to.to place s4 (c.in_err-gap.ensures.place place (ap Err same))

pub returns-in_err-second-clause-place : goal.returns-in_err-second-clause-place
returns-in_err-second-clause-place c place is =
    let text = c.args.bytes.now in
    let s2 = white_read text 1 c.white_end-start.result (range_begins text c.requires) c.white_end-start.ensures in
    let s3 = low_read text c.white_end-start.result c.in_ok-low.low_end c.in_ok-low.low s2 c.in_ok-low.ensures.bound in
    let s4 = gap_read text c.in_ok-low.low_end c.in_ok-to.to s3 c.in_ok-to.ensures.end.0 c.in_ok-to.ensures.end.1 in
    let s5 = to_read text c.in_ok-to.to c.in_ok-gap.gap s4 c.in_ok-gap.ensures.end in
    let fault = c.in_err-second.field-0.0 in
    let failed : c.from_residual-in_err-second.result ≡ Err fault = grind arith in
    let same = err_same c.from_residual-in_err-second.result fault (At place) failed is in
    let said = c.in_err-second.ensures.place place (ap Err same) in
    subst (λ p. BreaksValue text p) (sym said.0) (later_gap_fails text c.in_ok-gap.gap c.in_ok-gap.gap s5 said.1 refl)

pub returns-in_err-high-clause-place : goal.returns-in_err-high-clause-place
returns-in_err-high-clause-place c place is =
    let text = c.args.bytes.now in
    let s2 = white_read text 1 c.white_end-start.result (range_begins text c.requires) c.white_end-start.ensures in
    let s3 = low_read text c.white_end-start.result c.in_ok-low.low_end c.in_ok-low.low s2 c.in_ok-low.ensures.bound in
    let s4 = gap_read text c.in_ok-low.low_end c.in_ok-to.to s3 c.in_ok-to.ensures.end.0 c.in_ok-to.ensures.end.1 in
    let s5 = to_read text c.in_ok-to.to c.in_ok-gap.gap s4 c.in_ok-gap.ensures.end in
    let s6 = later_gap_read text c.in_ok-gap.gap c.in_ok-second.second s5 c.in_ok-second.ensures.end.0
    c.in_ok-second.ensures.end.1 in
    let fault = c.in_err-high.field-0.0 in
    let failed : c.from_residual-in_err-high.result ≡ Err fault = grind arith in
    let same = err_same c.from_residual-in_err-high.result fault (At place) failed is in
    high_fails text c.in_ok-second.second place s6 (c.in_err-high.ensures.place place (ap Err same))

pub returns-in_err-end-clause-place : goal.returns-in_err-end-clause-place
returns-in_err-end-clause-place c place is =
    let text = c.args.bytes.now in
    let s2 = white_read text 1 c.white_end-start.result (range_begins text c.requires) c.white_end-start.ensures in
    let s3 = low_read text c.white_end-start.result c.in_ok-low.low_end c.in_ok-low.low s2 c.in_ok-low.ensures.bound in
    let s4 = gap_read text c.in_ok-low.low_end c.in_ok-to.to s3 c.in_ok-to.ensures.end.0 c.in_ok-to.ensures.end.1 in
    let s5 = to_read text c.in_ok-to.to c.in_ok-gap.gap s4 c.in_ok-gap.ensures.end in
    let s6 = later_gap_read text c.in_ok-gap.gap c.in_ok-second.second s5 c.in_ok-second.ensures.end.0
    c.in_ok-second.ensures.end.1 in
    let s7 = high_read text c.in_ok-second.second c.in_ok-high.high_end c.in_ok-high.high s6
    c.in_ok-high.ensures.bound in
    let s8 = closing_white text c.in_ok-high.high_end c.white_end-close.result s7 c.white_end-close.ensures in
    let fault = c.in_err-end.field-0.0 in
    let failed : c.from_residual-in_err-end.result ≡ Err fault = grind arith in
    let same = err_same c.from_residual-in_err-end.result fault (At place) failed is in
    close_fails text c.white_end-close.result place s8 (c.in_err-end.ensures.place place (ap Err same))

pub returns-clause-value : goal.returns-clause-value
returns-clause-value c =
    let text = c.args.bytes.now in
    let s2 = white_read text 1 c.white_end-start.result (range_begins text c.requires) c.white_end-start.ensures in
    let s3 = low_read text c.white_end-start.result c.in_ok-low.low_end c.in_ok-low.low s2 c.in_ok-low.ensures.bound in
    let s4 = gap_read text c.in_ok-low.low_end c.in_ok-to.to s3 c.in_ok-to.ensures.end.0 c.in_ok-to.ensures.end.1 in
    let s5 = to_read text c.in_ok-to.to c.in_ok-gap.gap s4 c.in_ok-gap.ensures.end in
    let s6 = later_gap_read text c.in_ok-gap.gap c.in_ok-second.second s5 c.in_ok-second.ensures.end.0
    c.in_ok-second.ensures.end.1 in
    let s7 = high_read text c.in_ok-second.second c.in_ok-high.high_end c.in_ok-high.high s6
    c.in_ok-high.ensures.bound in
    let s8 = closing_white text c.in_ok-high.high_end c.white_end-close.result s7 c.white_end-close.ensures in
    let s9 = close_read text c.white_end-close.result c.in_ok-end.end s8 c.in_ok-end.ensures.end in
    range_value text c.white_end-start.result c.in_ok-low.low_end c.in_ok-to.to c.in_ok-gap.gap c.in_ok-second.second
    c.in_ok-high.high_end c.white_end-close.result c.in_ok-end.end
    c.in_ok-low.low c.in_ok-high.high c.requires c.white_end-start.ensures c.in_ok-low.ensures.bound
    c.in_ok-to.ensures.end.0 c.in_ok-to.ensures.end.1 c.in_ok-gap.ensures.end
    c.in_ok-second.ensures.end.0 c.in_ok-second.ensures.end.1 c.in_ok-high.ensures.bound c.white_end-close.ensures
    c.in_ok-end.ensures.end s9
