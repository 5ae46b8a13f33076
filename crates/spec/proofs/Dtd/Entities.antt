-- Entity declarations. Assumes nothing.
use mathlib.Core.Bool.{Bool, true, false, ◌&&◌, ◌||◌, and-false}
use mathlib.Core.List.{List, [], ◌++◌}
use mathlib.Core.Path.{◌≡◌, refl, sym, ◌∙◌, ap}
use Prim.Native.Nat.{ℕ}
use lib.Dec.{T, ltb}
use lib.ListN.{length, drop}
use lib.Seq.{drop-length}
use Rattle.spec.specs.Basics.{pick}
use Rattle.spec.specs.Grammar.Characters.{S, S?, space}
use Rattle.spec.specs.Grammar.Declarations.{NDataDecl, entity_body}
use Rattle.spec.specs.Grammar.Languages.{Lang, lit, ascii, ◌·◌, ◌∣◌, Opt, any, one_of}
use Rattle.spec.specs.Grammar.Literals.{EntityValue, ExternalID}
use Rattle.spec.specs.Grammar.Names.{Dialect, Name, NCName, AsciiNames}
use Rattle.spec.specs.Reading.Dtd.{require_s, on_quote, ndata, parse_entity_decl}
use Rattle.spec.specs.Reading.Readers.{Reader, ◌>>◌, starts, choose, on, word, run}
use Rattle.spec.specs.Reading.Refusals.{unexpected, trailing}
use Rattle.spec.specs.Reading.Wellformed.{name}
use Rattle.spec.proofs.Agreement.Algebra.{ε, ◌then◌, cat₂, either, assoc, over_right, over_left, none_after, swap}
use Rattle.spec.proofs.Agreement.Choices.{on_word, empty_reads}
use Rattle.spec.proofs.Agreement.Reads.{Reads, Next, next, seq, seq_by, alt, weaken, weaken_by, as_lang, ◌≅◌}
use Rattle.spec.proofs.Agreement.Runs.{need, spaced, blank_run}
use Rattle.spec.proofs.Agreement.Signs.{Class, by_signs, sub_any, sub_refl, ◌∪◌}
use Rattle.spec.proofs.Agreement.Whole.{stop, Whole, whole, ends_seq, ends_at_end, blank_first, blank_tail, blank_meet}
use Rattle.spec.proofs.Agreement.Words.{wd, first_of, starts_clash, clash, starts_lit}
use Rattle.spec.proofs.Base.Tests.{leb_yes}
use Rattle.spec.proofs.Dtd.Literals.{quote_first, external_id_reads, at_quote}
use Rattle.spec.proofs.Dtd.Notations.{ncname_reads}
use Rattle.spec.proofs.Dtd.Values.{entity_value_reads}
use Rattle.spec.proofs.Wellformed.Names.{start_first, name_reads}

-- r at either quote: one test for both
on_quote_same : (r q : Reader) (w : List ℕ) → on_quote r q w ≡ choose (λ x. starts (ascii "\"") x || starts (ascii "'") x) r q w
unfolding on_quote on choose
on_quote_same r q w = go (starts (ascii "\"") w)
  where
    go : (b : Bool) → pick b r (λ z. pick (starts (ascii "'") z) r q z) w ≡ pick (b || starts (ascii "'") w) r q w
    go true = refl
    go false = refl

on_quote_reads : {r q : Reader} {L M F : Lang} {g : Class} → T (clash (ascii "\"") [] g) → T (clash (ascii "'") [] g) → Reads r L F quote_first → Reads q M F g → Reads (on_quote r q) (L ∣ M) F (quote_first ∪ g)
on_quote_reads {r} {q} {L} {M} {F} {g} c d a b =
    let x : Reads (choose (λ x. starts (ascii "\"") x || starts (ascii "'") x) r q) (L ∣ M) F (quote_first ∪ g) =
    alt (λ x. starts (ascii "\"") x || starts (ascii "'") x) (λ u v l t. at_quote (u ++ v) (a.leads u v l t))
    (λ u v m t. rw (starts_clash (ascii "\"") [] g (u ++ v) c (b.leads u v m t), starts_clash (ascii "'") [] g (u ++ v) d (b.leads u v m t))) a b in
    record { sound = λ w k tw e. x.sound w k tw (sym (on_quote_same r q w) ∙ e); complete = λ u v l t. on_quote_same r q (u ++ v) ∙ x.complete u v l t; leads = x.leads }

module _ (D : Dialect) (A : AsciiNames D) where
  -- NDataDecl, or nothing where only white space is left
  abbrev ahead : List ℕ → Bool
  ahead w = ltb 0 (run space w) && starts (ascii "NDATA") (drop (run space w) w)

  ndata_named : Reads (word "NDATA" unexpected >> require_s >> name D) (lit "NDATA" · S · Name D) S? (first_of "N")
  ndata_named = seq (wd "NDATA" unexpected tt) sub_any (seq (need start_first (by_signs tt)) sub_refl (weaken_by (λ v s. next {p = space ∪ stop} (by_signs tt) (record { it = blank_first v s })) sub_refl (name_reads D A)))

  ndata_reads : Reads (ndata D) (Opt (NDataDecl D)) S? (space ∪ stop)
  unfolding ndata NDataDecl starts
  ndata_reads =
      weaken_by (λ v t. t) (by_signs tt)
      (alt ahead yes none (seq (need (first_of "N") (by_signs tt)) sub_refl ndata_named) (weaken_by (λ v s. record { it = blank_first v s }) sub_refl (empty_reads (space ∪ stop))))
    where
      none : (u v : List ℕ) → u ≡ [] → S? v → ahead (u ++ v) ≡ false
      none u v e s = ap (λ (z : List ℕ). ahead (z ++ v)) e ∙ rw (blank_run v s, drop-length v) (and-false (ltb 0 (length v)))

      yes : (u v : List ℕ) → (S · lit "NDATA" · S · Name D) u → S? v → ahead (u ++ v) ≡ true
      yes u v l s =
          let (r, d, n) = spaced (first_of "N") (by_signs tt) ndata_named.leads u v l s in
          rw (r, d, leb_yes 1 (length l.left) n) (starts_lit "NDATA" v l.second)

  free_follow : {r : Reader} {L : Lang} {f : Class} → Reads r L (Next any) f → Reads r L S? f
  free_follow a = weaken_by (λ v t. record { it = tt }) sub_refl a

  pub entity_whole : Whole (parse_entity_decl D) (entity_body D)
  unfolding parse_entity_decl entity_body
  entity_whole =
      whole
      (as_lang written
      (seq (need (first_of "%" ∪ start_first) (by_signs tt)) sub_refl
      (seq_by
      (on_word "%" tt
      (seq (wd "%" unexpected tt) sub_any (seq (need start_first (by_signs tt)) sub_refl (seq (weaken (by_signs tt) sub_refl (ncname_reads D A)) sub_refl
      (seq (need (quote_first ∪ one_of "SP") (by_signs tt)) sub_refl (on_quote_reads tt tt (free_follow entity_value_reads) (free_follow external_id_reads))))))
      (seq (weaken (by_signs tt) sub_refl (ncname_reads D A)) sub_refl
      (seq (need (quote_first ∪ one_of "SP") (by_signs tt)) sub_refl (on_quote_reads tt tt (free_follow entity_value_reads) (seq external_id_reads sub_any ndata_reads)))))
      blank_meet blank_tail)))
      (ends_seq _ _ (ends_seq _ _ (ends_seq _ _ (ends_at_end trailing))))
    where
      written : (S · ((lit "%" · S · NCName D · S · (EntityValue ∣ ExternalID)) ∣ (NCName D · S · (EntityValue ∣ (ExternalID · Opt (NDataDecl D))))) · S? · ε)
          ≅ ((S · NCName D · S · (EntityValue ∣ (ExternalID · Opt (NDataDecl D))) · S?) ∣ (S · lit "%" · S · NCName D · S · (EntityValue ∣ ExternalID) · S?))
      written =
          cat₂ (cat₂ none_after then over_left then either (assoc then cat₂ (assoc then cat₂ (assoc then cat₂ assoc))) (assoc then cat₂ assoc)) then over_right then swap
