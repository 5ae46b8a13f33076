-- A declaration from its keyword to its '>', for any reader of its body. Assumes nothing.
use mathlib.Core.Path.{◌≡◌, sym, ap, ◌∙◌}
use mathlib.Core.Bool.{Bool, true, false, ◌||◌}
use mathlib.Core.List.{List}
use Prim.Native.Nat.{ℕ, ◌+◌, ◌-◌, ◌^◌, ◌<◌, ◌≤◌}
use native.Mathlib.Omega.{arith}
use borrow.Author.Rules.{rules}
use mir.Syntax.{w64}
use mir.Val.{Fits}
use lib.ListN.{length, take, drop, length-drop}
use Rattle.std.specs.Prelude.{Ok, Err}
use Rattle.spec.specs.Basics.{pick}
use Rattle.spec.specs.Grammar.Names.{Dialect}
use Rattle.spec.specs.Reading.Readers.{ok, Reader, on_ok, nothing}
use Rattle.spec.specs.Reading.Dtd.{take_decl_body, has_pe_reference, finish_decl}
use Rattle.cursor.proofs.Reading.{left_of}
use Rattle.spec.proofs.Inside.Readers.{body_within}
use Rattle.error.specs.Read.{passed, said, placed, read, Answer}
use Rattle.error.specs.declared.Fault.{Fault}
use Rattle.error.proofs.Laws.{was_ok, was_err}

-- r is what take_decl_body gave: the body's end
module _ (s : List ℕ) (at : ℕ) (r : Answer) (a : said r ≡ read take_decl_body s at) (end : ℕ) (e : r ≡ Ok end) where
  -- what the code's answer says: the body goes to its end
  body : (take_decl_body (drop at s) ≡ ok (end - at)) × (end ≡ at + (end - at))
  body =
      let (k, (f, g)) = was_ok take_decl_body s at end r a e in
      let z : k ≡ end - at = omega arith in
      (f ∙ ap ok z, omega arith)

  body_in : end < length s
  body_in = omega (arith, body.1, length-drop at s, body_within (end - at) (drop at s) body.0)

  pub body_from : at ≤ end
  body_from = omega (arith, body.1)

  pub body_to : end ≤ length s
  body_to = omega (arith, body_in)

  pub finish_fits : length s < 2 ^ 64 → Fits w64 (end + 1)
  finish_fits l = let h = body_in in omega arith

module _ (D : Dialect) (B : Reader) (pe : Bool) (s : List ℕ) (at : ℕ) (r : Answer) (a : said r ≡ read take_decl_body s at) where
  pub finish_no : (x : Fault) → r ≡ Err x → said (Err x) ≡ read (finish_decl D pe B) s at
  unfolding read finish_decl
  finish_no x e = let (m, (j, (f, g))) = was_err take_decl_body s at x r a e in g ∙ (rw f)

  module _ (end : ℕ) (e : r ≡ Ok end) where
    -- what is answered after the body, by whether it is read
    after_body : (t : Bool) → (pe || has_pe_reference D (take (end - at) (drop at s))) ≡ t
        → read (finish_decl D pe B) s at ≡ placed at (on_ok (pick t nothing B (take (end - at) (drop at s))) (λ _. ok (end - at + 1)))
    unfolding read finish_decl
    after_body t f = rw ((body s at r a end e).0, f)

    end_place : said (Ok (end + 1)) ≡ placed at (ok (end - at + 1))
    unfolding said
    end_place = ap passed (let g = (body s at r a end e).1 in let z : end + 1 ≡ at + (end - at + 1) = omega arith in z)

    pub finish_used : pe ≡ true → said (Ok (end + 1)) ≡ read (finish_decl D pe B) s at
    unfolding nothing
    finish_used f = end_place ∙ sym (after_body true (rw f))

    module _ (n : pe ≡ false) (t : Bool) (h : t ≡ has_pe_reference D (take (end - at) (drop at s))) where
      pub finish_unread : t ≡ true → said (Ok (end + 1)) ≡ read (finish_decl D pe B) s at
      unfolding nothing
      finish_unread f = end_place ∙ sym (after_body true (rw (n, sym h ∙ f)))

      module _ (f : t ≡ false) (q : Answer) (b : said q ≡ read B (take (end - 0) (drop 0 s)) at) where
        pub finish_refused : (m : Fault) → q ≡ Err m → said (Err m) ≡ read (finish_decl D pe B) s at
        finish_refused m g =
            let (x, (y, (i, j))) = was_err B (take (end - 0) (drop 0 s)) at m q b g in
            j ∙ sym (after_body false (rw (n, sym h ∙ f)) ∙ (rw (← left_of at end s, i)))

        pub finish_read : (m : ℕ) → q ≡ Ok m → said (Ok (end + 1)) ≡ read (finish_decl D pe B) s at
        finish_read m g =
            let (x, (i, j)) = was_ok B (take (end - 0) (drop 0 s)) at m q b g in
            end_place ∙ sym (after_body false (rw (n, sym h ∙ f)) ∙ (rw (← left_of at end s, i)))

-- what searches the end of a declaration
pub ruleset finishing = (finish_no, finish_used, finish_unread, finish_refused, finish_read, finish_fits, body_from, body_to, rules)
