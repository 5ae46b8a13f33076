-- Names without a colon, and notation declarations. Assumes nothing.
use mathlib.Core.Bool.{Bool, true, false, ◌&&◌, ◌||◌, and-false}
use mathlib.Core.List.{List, [], ◌∷◌, ◌++◌}
use mathlib.Core.Path.{◌≡◌, refl, sym, ◌∙◌, ap}
use Prim.Native.Nat.{ℕ}
use lib.Dec.{ltb}
use lib.ListN.{length, take, drop}
use lib.Seq.{take-append_seam, take_at, drop-length}
use Rattle.spec.specs.Basics.{pick}
use Rattle.spec.specs.Grammar.Characters.{Text, S, S?, space}
use Rattle.spec.specs.Grammar.Declarations.{notation_body}
use Rattle.spec.specs.Grammar.Languages.{lit, ascii, ◌·◌, ◌∣◌, Opt, one_of}
use Rattle.spec.specs.Grammar.Literals.{SystemLiteral, PubidLiteral, ExternalID, PublicID}
use Rattle.spec.specs.Grammar.Names.{Dialect, Name, NCName, AsciiNames}
use Rattle.spec.specs.Reading.Dtd.{require_s, parse_quoted, check_pubid, ncname, second_literal, parse_notation_decl}
use Rattle.spec.specs.Reading.Readers.{ok, err, ◌>>◌, nothing, starts, on, word, run, contains, before}
use Rattle.spec.specs.Reading.Refusals.{has_colon, unexpected, trailing}
use Rattle.spec.specs.Reading.Wellformed.{name}
use Rattle.spec.proofs.Agreement.Algebra.{same, ◌then◌, cat₂, either, over_right, none_after, regroup}
use Rattle.spec.proofs.Agreement.Choices.{on_word, empty_reads}
use Rattle.spec.proofs.Agreement.Reads.{Took, Reads, Next, seq, seq_by, alt, weaken, weaken_by, as_lang, ◌≅◌}
use Rattle.spec.proofs.Agreement.Runs.{need, spaced, blank_run}
use Rattle.spec.proofs.Agreement.Signs.{by_signs, sub_any, sub_refl, ◌∪◌}
use Rattle.spec.proofs.Agreement.Whole.{stop, Whole, whole, ends_seq, ends_at_end, blank_first, blank_tail, blank_meet}
use Rattle.spec.proofs.Agreement.Words.{wd}
use Rattle.spec.proofs.Agreement.Holds.{free_holds, holds_free}
use Rattle.spec.proofs.Agreement.Texts.{texts_name}
use Rattle.spec.proofs.Base.Results.{ok_inj, on_ok_ok, unless_refused}
use Rattle.spec.proofs.Base.Tests.{leb_yes}
use Rattle.spec.proofs.Dtd.Literals.{quote_first, system_literal_reads, pubid_literal_reads, at_quote}
use Rattle.spec.proofs.Wellformed.Names.{ends_name, start_first, name_reads}

module _ (D : Dialect) (A : AsciiNames D) where
  -- the test for a colon, on a name
  pub no_colon : (u : List ℕ) → NCName D u → contains (58 ∷ []) u ≡ false
  unfolding NCName Text
  no_colon u n = holds_free ":" 58 [] refl tt u (texts_name D u n.0) n.1

  pub ncname_reads : Reads (ncname D) (NCName D) (Next ends_name) start_first
  unfolding ncname NCName
  ncname_reads = record { sound = sound_by; complete = complete_by; leads = λ u v n t. (name_reads D A).leads u v n.0 t }
    where
      sound_by : (w : List ℕ) (k : ℕ) → Text w → ncname D w ≡ ok k → Took (NCName D) k w
      sound_by w k tw e =
          let (j, f, g) = on_ok_ok (name D w) (λ j. pick (contains (ascii ":") (take j w)) (err has_colon (before (ascii ":") (take j w))) (ok j)) k e in
          let (c, h) = unless_refused has_colon (before (ascii ":") (take j w)) (contains (ascii ":") (take j w)) (ok j) k g in
          let o : Took (Name D) j w = (name_reads D A).sound w j tw f in
          let z : take j w ≡ o.taken = ap (take j) o.split ∙ take_at o.taken o.rest j o.size in
          record { taken = o.taken; rest = o.rest; split = o.split; size = o.size ∙ ok_inj j k h; holds = (o.holds, free_holds ":" 58 [] refl tt o.taken (ap (contains (ascii ":")) (sym z) ∙ c)); left = o.left }

      complete_by : (u v : List ℕ) → NCName D u → Next ends_name v → ncname D (u ++ v) ≡ ok (length u)
      complete_by u v n t =
          rw ((name_reads D A).complete u v n.0 t, take-append_seam u v, no_colon u n)

  -- a literal after white space, or nothing where only white space is left
  abbrev ahead : List ℕ → Bool
  ahead w = ltb 0 (run space w) && (starts (ascii "\"") (drop (run space w) w) || starts (ascii "'") (drop (run space w) w))

  second_reads : Reads (second_literal) (Opt (S · SystemLiteral)) S? (space ∪ stop)
  unfolding second_literal starts
  second_reads =
      weaken_by (λ v t. t) (by_signs tt)
      (alt ahead yes none (weaken_by (λ v t. record { it = tt }) sub_refl (seq (need quote_first (by_signs tt)) sub_refl system_literal_reads)) empty)
    where
      empty : Reads nothing (λ w. w ≡ []) S? (space ∪ stop)
      empty = weaken_by (λ v s. record { it = blank_first v s }) sub_refl (empty_reads (space ∪ stop))

      none : (u v : List ℕ) → u ≡ [] → S? v → ahead (u ++ v) ≡ false
      none u v e s = ap (λ (z : List ℕ). ahead (z ++ v)) e ∙ rw (blank_run v s, drop-length v) (and-false (ltb 0 (length v)))

      yes : (u v : List ℕ) → (S · SystemLiteral) u → S? v → ahead (u ++ v) ≡ true
      yes u v l s =
          let (r, d, n) = spaced quote_first (by_signs tt) system_literal_reads.leads u v l (record { it = tt }) in
          rw (r, d, leb_yes 1 (length l.left) n) (at_quote (l.right ++ v) (system_literal_reads.leads l.right v l.second (record { it = tt })))

  identifier_written : ((lit "SYSTEM" · S · SystemLiteral) ∣ (lit "PUBLIC" · S · PubidLiteral · Opt (S · SystemLiteral))) ≅ (ExternalID ∣ PublicID)
  unfolding ExternalID PublicID
  identifier_written = either same (cat₂ (cat₂ (over_right then either same none_after) then over_right) then over_right) then regroup

  identifier_reads : Reads (on "SYSTEM" (word "SYSTEM" unexpected >> require_s >> parse_quoted nothing) (word "PUBLIC" unexpected >> require_s >> parse_quoted check_pubid >> second_literal)) (ExternalID ∣ PublicID) S? (one_of "SP")
  identifier_reads =
      as_lang identifier_written
      (weaken_by (λ v t. t) (by_signs tt)
      (on_word "SYSTEM" tt
      (weaken_by (λ v t. record { it = tt }) sub_refl (seq (wd "SYSTEM" unexpected tt) sub_any (seq (need quote_first (by_signs tt)) sub_refl system_literal_reads)))
      (seq (wd "PUBLIC" unexpected tt) sub_any (seq (need quote_first (by_signs tt)) sub_refl (seq pubid_literal_reads sub_any second_reads)))))

  pub notation_whole : Whole (parse_notation_decl D) (notation_body D)
  unfolding parse_notation_decl notation_body
  notation_whole =
      whole
      (as_lang (cat₂ (cat₂ (cat₂ (cat₂ none_after))))
      (seq (need start_first (by_signs tt)) sub_refl
      (seq (weaken (by_signs tt) sub_refl ncname_reads) sub_refl
      (seq (need (one_of "SP") (by_signs tt)) sub_refl (seq_by identifier_reads blank_meet blank_tail)))))
      (ends_seq _ _ (ends_seq _ _ (ends_seq _ _ (ends_seq _ _ (ends_seq _ _ (ends_at_end trailing))))))
