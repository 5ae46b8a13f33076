-- What is left to show of `parse_internal_subset`. Assumes nothing.
use Rattle.error.proofs.Passing.{handed_up}
use Rattle.subset.proofs.Looping.{item_reference_no, item_reference, reference_less, item_markup_no, item_markup, markup_less, item_other}
use Rattle.subset.proofs.subset.parse_internal_subset.Goals as goal

pub returns-in_err-i-in-Some-eq37 : goal.returns-in_err-i-in-Some-eq37
returns-in_err-i-in-Some-eq37 c = handed_up _ _ _ _ _ c.in_err-i-in-Some-eq37.is c.branch-i.ensures c.from_residual.ensures.1 (item_reference_no _ _ _ _ _ _ c.loop-i.invariant c.skip_s-here.ensures _ c.in-Some-eq37.ensures.lookup.3.0 (c.in-Some-eq37.ensures.lookup.3.1 _) c.in-Some-eq37.field-0-test _ c.parse_pe_reference.ensures _ c.in_err-i-in-Some-eq37.was)

pub loop-i-smaller-in-Some-eq37 : goal.loop-i-smaller-in-Some-eq37
loop-i-smaller-in-Some-eq37 c = reference_less _ _ _ _ _ _ c.loop-i.invariant c.skip_s-here.ensures _ c.in-Some-eq37.ensures.lookup.3.0 (c.in-Some-eq37.ensures.lookup.3.1 _) c.in-Some-eq37.field-0-test _ c.parse_pe_reference.ensures _ c.in_ok-i-in-Some-eq37.was

pub loop-i-preserved-in-Some-eq37 : goal.loop-i-preserved-in-Some-eq37
loop-i-preserved-in-Some-eq37 c = item_reference _ _ _ _ _ _ c.loop-i.invariant c.skip_s-here.ensures _ c.in-Some-eq37.ensures.lookup.3.0 (c.in-Some-eq37.ensures.lookup.3.1 _) c.in-Some-eq37.field-0-test _ c.parse_pe_reference.ensures _ c.in_ok-i-in-Some-eq37.was

pub returns-in_err-i-in-Some-eq60 : goal.returns-in_err-i-in-Some-eq60
returns-in_err-i-in-Some-eq60 c = handed_up _ _ _ _ _ c.in_err-i-in-Some-eq60.is c.branch-i-in-Some-eq60.ensures c.from_residual-in_err-i-in-Some-eq60.ensures.1 (item_markup_no _ _ _ _ _ _ c.loop-i.invariant c.skip_s-here.ensures _ c.in-Some-eq60.ensures.lookup.3.0 (c.in-Some-eq60.ensures.lookup.3.1 _) c.in-Some-eq60.field-0-test _ c.parse_markup_decl.ensures _ c.in_err-i-in-Some-eq60.was)

pub loop-i-smaller : goal.loop-i-smaller
loop-i-smaller c = markup_less _ _ _ _ _ _ c.loop-i.invariant c.skip_s-here.ensures _ c.in-Some-eq60.ensures.lookup.3.0 (c.in-Some-eq60.ensures.lookup.3.1 _) c.in-Some-eq60.field-0-test _ c.parse_markup_decl.ensures _ c.in_ok-i-in-Some-eq60.was

pub loop-i-preserved : goal.loop-i-preserved
loop-i-preserved c = item_markup _ _ _ _ _ _ c.loop-i.invariant c.skip_s-here.ensures _ c.in-Some-eq60.ensures.lookup.3.0 (c.in-Some-eq60.ensures.lookup.3.1 _) c.in-Some-eq60.field-0-test _ c.parse_markup_decl.ensures _ c.in_ok-i-in-Some-eq60.was

pub returns-in-Some : goal.returns-in-Some
returns-in-Some c = item_other _ _ _ _ _ _ c.loop-i.invariant c.skip_s-here.ensures _ c.in-Some.ensures.lookup.3.0 (c.in-Some.ensures.lookup.3.1 _) c.in-Some.field-0-test.0.0.1 c.in-Some.field-0-test.0.1 c.in-Some.field-0-test.1 _ c.at.ensures
