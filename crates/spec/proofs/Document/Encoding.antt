-- The encoding that is found in an XML declaration is the grammar's. Assumes nothing.
use mathlib.Core.Bool.{true}
use mathlib.Core.List.{List, [], ◌∷◌, ◌++◌, append_assoc, append-nil}
use mathlib.Core.Path.{◌≡◌, refl, sym, ◌∙◌, ap, subst}
use Prim.Native.Nat.{ℕ, ◌+◌}
use lib.Dec.{T}
use lib.ListN.{length, length-append}
use lib.Seq.{drop-append_seam, take-append_seam}
use Rattle.spec.specs.Grammar.Characters.{S, S?, space, xml_char}
use Rattle.spec.specs.Grammar.Encodings.{named, quoted_text, encoding_decl, encoding_xml, encoding_marked}
use Rattle.spec.specs.Grammar.Languages.{Lang, lit, ◌·◌, inl, inr, Opt, any}
use Rattle.spec.specs.Grammar.Literals.{Quoted}
use Rattle.spec.specs.Grammar.Names.{Dialect, AsciiNames}
use Rattle.spec.specs.Grammar.Prolog.{opening, prolog, Begins, encoding_of}
use Rattle.spec.specs.Grammar.XmlDecl.{Eq, VersionInfo, EncName, EncodingDecl, SDDecl, XMLDecl}
use Rattle.spec.specs.Reading.Document.{is_declaration, read_declaration, legal_part}
use Rattle.spec.specs.Reading.Readers.{Result, ok}
use Rattle.spec.specs.Reading.Refusals.{unexpected}
use Rattle.spec.specs.Reading.Verdict.{read_version, read_encoding, value_at, encoding_at, encoding_in, find_encoding, unless_refused, encoding_read}
use Rattle.spec.proofs.Agreement.Holds.{first_after, avoids_contains, first_sign}
use Rattle.spec.proofs.Agreement.Reads.{Reads, Next, seq}
use Rattle.spec.proofs.Agreement.Runs.{skip, need}
use Rattle.spec.proofs.Agreement.Signs.{kind, by_signs, sub_any, sub_refl, ◌∪◌}
use Rattle.spec.proofs.Agreement.Whole.{stop}
use Rattle.spec.proofs.Agreement.Words.{first_of, wd}
use Rattle.spec.proofs.Characters.Text.{cat_before, between}
use Rattle.spec.proofs.Checks.Values.{version_value, enc_value}
use Rattle.spec.proofs.Checks.XmlDecl.{eq_quoted_reads, Then, then_past, ahead, missed, found, met}
use Rattle.spec.proofs.Document.Declaration.{Marked, marked_there, Undeclared, declaration_reads}
use Rattle.spec.proofs.Document.Declared.{unasked}
use Rattle.spec.proofs.Document.Legal.{legal_keeps}
use Rattle.spec.proofs.Document.Misc.{After, misc_undeclared}
use Rattle.spec.proofs.Document.Prolog.{ending_after}
use Rattle.spec.proofs.Document.Tag.{tag_rooted}
use Rattle.spec.proofs.Dtd.Literals.{quote_first}

-- the value in quotes
value_read : (k : ℕ) (u v : List ℕ) (q : Quoted EncName EncName u) → value_at k (u ++ v) ≡ named (k + 1) (quoted_text q)
value_read k u v (inl l) =
    let n : List ℕ = l.second.left in
    let f : u ++ v ≡ 34 ∷ (n ++ 34 ∷ v) = ap (λ (z : List ℕ). z ++ v) (between "\"" "\"" l) ∙ ap (λ (z : List ℕ). 34 ∷ z) (append_assoc n (34 ∷ []) v) in
    rw (f, first_sign 34 n v (enc_value.no_double n l.second.first), take-append_seam n (34 ∷ v))
value_read k u v (inr l) =
    let n : List ℕ = l.second.left in
    let f : u ++ v ≡ 39 ∷ (n ++ 39 ∷ v) = ap (λ (z : List ℕ). z ++ v) (between "'" "'" l) ∙ ap (λ (z : List ℕ). 39 ∷ z) (append_assoc n (39 ∷ []) v) in
    rw (f, first_sign 39 n v (enc_value.no_single n l.second.first), take-append_seam n (39 ∷ v))

quoted_leads : (u v : List ℕ) → Quoted EncName EncName u → T (quote_first (kind (u ++ v)))
unfolding kind
quoted_leads u v (inl l) = subst (λ (z : List ℕ). T (quote_first (kind (z ++ v)))) (sym (between "\"" "\"" l)) tt
quoted_leads u v (inr l) = subst (λ (z : List ℕ). T (quote_first (kind (z ++ v)))) (sym (between "'" "'" l)) tt

version_reads : Reads read_version (lit "xml" · VersionInfo) (Next any) (first_of "xml")
unfolding read_version VersionInfo
version_reads = seq (wd "xml" unexpected tt) sub_any (seq (need (first_of "version") (by_signs tt)) sub_refl (seq (wd "version" unexpected tt) sub_any (eq_quoted_reads version_value)))

encoding_reads : Reads read_encoding (S · lit "encoding" · Eq) (Next quote_first) space
unfolding read_encoding Eq
encoding_reads = seq (need (first_of "encoding") (by_signs tt)) sub_refl (seq (wd "encoding" unexpected tt) sub_any (seq (skip (first_of "=") (by_signs tt)) sub_refl (seq (wd "=" unexpected tt) sub_any (skip quote_first (by_signs tt)))))

-- EncodingDecl?, and what stands after it
abbrev Rest : Lang
Rest = Opt SDDecl · S?

rest_then : (v : List ℕ) → Rest v → Then (first_of "standalone" ∪ stop) v
unfolding SDDecl kind
rest_then v c = subst (Then (first_of "standalone" ∪ stop)) (append-nil v) (met "standalone" tt (by_signs tt) stop blank v [] c (record { it = tt }))
  where
    blank : (u v : List ℕ) → S? u → Next stop v → Then stop (u ++ v)
    blank u v s t = then_past (by_signs tt) u v s t.it

decl_read : (k : ℕ) (u v : List ℕ) → Rest v → (o : Opt EncodingDecl u) → encoding_at k (u ++ v) ≡ encoding_decl k o
unfolding EncodingDecl encoding_decl
decl_read k u v c (inr e) = rw (missed "encoding" (first_of "standalone" ∪ stop) tt u v e (rest_then v c))
decl_read k u v c (inl e) =
    let a : List ℕ = e.left in
    let b : List ℕ = e.second.left in
    let q : List ℕ = e.second.second.left in
    let n : List ℕ = e.second.second.right in
    let p : List ℕ = a ++ (b ++ q) in
    let lp : (S · lit "encoding" · Eq) p = record { left = a; right = b ++ q; split = refl; first = e.first; second = record { left = b; right = q; split = refl; first = e.second.first; second = e.second.second.first } } in
    let f : u ++ v ≡ p ++ (n ++ v) =
    cat_before e v ∙ ap (λ (z : List ℕ). a ++ z) (cat_before e.second v ∙ ap (λ (z : List ℕ). b ++ z) (cat_before e.second.second v) ∙ sym (append_assoc b q (n ++ v))) ∙ sym (append_assoc a (b ++ q) (n ++ v)) in
    let g : read_encoding (p ++ (n ++ v)) ≡ ok (length p) = encoding_reads.complete p (n ++ v) lp (record { it = quoted_leads n v e.second.second.second }) in
    let h : ahead "encoding" (p ++ (n ++ v)) ≡ true = ap (ahead "encoding") (sym f) ∙ found "encoding" tt (by_signs tt) u v e in
    let s : length p ≡ length a + (length b + length q) = (length-append a (b ++ q) ∙ ap (λ (z : ℕ). length a + z) (length-append b q)) in
    rw (f, h, g, drop-append_seam p (n ++ v)) (value_read (k + length p) n v e.second.second.second ∙ ap (λ (z : ℕ). named (k + z + 1) (quoted_text e.second.second.second)) s)

xml_read : (k : ℕ) (t : List ℕ) (x : XMLDecl t) → encoding_in k t ≡ encoding_xml k t x
unfolding XMLDecl encoding_in encoding_xml
xml_read k t x =
    let a : List ℕ = x.left in
    let b : List ℕ = x.second.left in
    let c : List ℕ = x.second.second.left in
    let d : List ℕ = x.second.second.right in
    let p : List ℕ = a ++ b in
    let lp : (lit "xml" · VersionInfo) p = record { left = a; right = b; split = refl; first = x.first; second = x.second.first } in
    let f : t ≡ p ++ (c ++ d) = x.split ∙ ap (λ (z : List ℕ). a ++ z) (x.second.split ∙ ap (λ (z : List ℕ). b ++ z) x.second.second.split) ∙ sym (append_assoc a b (c ++ d)) in
    let g : read_version (p ++ (c ++ d)) ≡ ok (length p) = version_reads.complete p (c ++ d) lp (record { it = tt }) in
    rw (f, g, drop-append_seam p (c ++ d)) (decl_read (k + length p) c d x.second.second.second x.second.second.first ∙ ap (λ (z : ℕ). encoding_decl (k + z) x.second.second.first) (length-append a b))

-- XMLDecl?, and what stands after it
marked_read : (u v : List ℕ) → Undeclared v → (o : Opt Marked u) → unless_refused (read_declaration (u ++ v)) (find_encoding (u ++ v)) ≡ encoding_marked o
unfolding find_encoding
marked_read u v t o = ap (λ (r : Result). unless_refused r (find_encoding (u ++ v))) (declaration_reads.complete u v o t) ∙ go o
  where
    go : (o : Opt Marked u) → find_encoding (u ++ v) ≡ encoding_marked o
    go (inr e) = rw (ap (λ (z : List ℕ). is_declaration (z ++ v)) e ∙ t.it)
    go (inl l) =
        let n : List ℕ = l.second.left in
        let f : u ++ v ≡ 60 ∷ 63 ∷ (n ++ (63 ∷ 62 ∷ v)) = ap (λ (z : List ℕ). z ++ v) (between "<?" "?>" l) ∙ ap (λ (z : List ℕ). 60 ∷ 63 ∷ z) (append_assoc n (63 ∷ 62 ∷ []) v) in
        let h : is_declaration (60 ∷ 63 ∷ (n ++ (63 ∷ 62 ∷ v))) ≡ true = ap is_declaration (sym f) ∙ marked_there u v l in
        rw (f, h, first_after 63 (62 ∷ []) refl n v (avoids_contains 63 (62 ∷ []) n (unasked n l.second.first)), take-append_seam n (63 ∷ 62 ∷ v)) (xml_read 2 n l.second.first)

module _ (D : Dialect) (A : AsciiNames D) where
  -- The theorem: the encoding that is found is the grammar's.
  pub encoding_right : (w : List ℕ) (b : Begins D xml_char w) → encoding_read w ≡ encoding_of D b
  unfolding encoding_read
  encoding_right w b =
      let (x, e) = legal_keeps xml_char w (b.front ++ b.root) b.rest b.split b.legal in
      let o : prolog D b.front = b.is_prolog in
      let m : opening D o.left = o.first in
      let r : List ℕ = o.right ++ (b.root ++ x) in
      let f : legal_part xml_char w ≡ m.left ++ (m.right ++ r) = e ∙ append_assoc b.front b.root x ∙ cat_before o (b.root ++ x) ∙ cat_before m r in
      let a : After r = ending_after D A o.right (b.root ++ x) o.second (tag_rooted D A b.root x b.is_tag) in
      rw f (marked_read m.left (m.right ++ r) (record { it = misc_undeclared D A r m.second a }) m.first)
