-- What is left to show of `is_value` of EncName. Assumes nothing.
use Prim.Native.Nat.{◌-◌}
use borrow.Author.Rules.{rules}
use lib.ListN.{length, take, drop}
use Rattle.std.proofs.Common.{true, ◌∙◌}
use Rattle.std.proofs.lemmas.Iterator.{YieldsList-from_slice}
use Rattle.std.proofs.lemmas.Iterator.Consumers.{fold_from_yields_List}
use Rattle.spec.specs.Grammar.XmlDecl.{enc_char}
use Rattle.checks.proofs.Valuing.{enc_is, all_so_far, fold_is}
use Rattle.checks.proofs.values.EncNameValue.is_value.Goals as goal

pub returns-then-is_latin_letter : goal.returns-then-is_latin_letter
returns-then-is_latin_letter c =
    enc_is _ _ _ c.in-len1-up.len_at_least c.is_latin_letter.ensures c.if-is_latin_letter.true
    (fold_from_yields_List _ (all_so_far enc_char) _ _ c.fold.ensures.ran (YieldsList-from_slice (take (length c.args.v.now - 1) (drop 1 c.args.v.now)) cc) (λ a x b q k. search rules) ∙ fold_is enc_char (take (length c.args.v.now - 1) (drop 1 c.args.v.now)) true)
