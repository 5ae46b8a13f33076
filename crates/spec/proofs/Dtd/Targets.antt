-- An instruction's target is what stands before white space. It begins with the longest name that stands there, so checking it is
-- checking that name, and what comes after it. Assumes nothing.
use mathlib.Core.List.{List, [], ◌∷◌, ◌++◌, append_assoc}
use mathlib.Core.Path.{◌≡◌, refl, sym, ◌∙◌, ap}
use Prim.Native.Nat.{ℕ, zero, suc, ◌+◌, ◌≤◌}
use native.Mathlib.Nat.{add-zero, zero-add}
use native.Mathlib.Omega.{arith}
use lib.ListN.{length, take, drop, length-drop, take-append-drop}
use lib.Seq.{take-add, length-take-le}
use Rattle.spec.specs.Basics.{pick}
use Rattle.spec.specs.Grammar.Languages.{ascii}
use Rattle.spec.specs.Grammar.Names.{Dialect, AsciiNames, Name}
use Rattle.spec.specs.Reading.Dtd.{reserved, check_target, check_pi}
use Rattle.spec.specs.Reading.Readers.{Result, ok, err, past, ◌>>◌, at_end, run, contains, before}
use Rattle.spec.specs.Reading.Refusals.{bad_name, has_colon, reserved_target}
use Rattle.spec.specs.Reading.Wellformed.{name, name_length, check_name}
use Rattle.spec.proofs.Base.Places.{run_within}
use Rattle.spec.proofs.Dtd.Instructions.{solid, run_solid, name_avoids_all}
use Rattle.spec.proofs.Wellformed.LongestName.{name_within, name_is_name, name_longest, name_read, name_unread}

-- what is said of a target that is a name
abbrev pub judged : List ℕ → Result
judged t = pick (contains (ascii ":") t) (err has_colon (before (ascii ":") t)) (pick (reserved t) (err reserved_target 0) (ok 0))

module _ (D : Dialect) (A : AsciiNames D) (w : List ℕ) where
  abbrev size : ℕ
  size = name_length D w

  -- how many bytes after the name are no white space
  abbrev pub beyond : ℕ
  beyond = run solid (drop (name_length D w) w)

  abbrev target : List ℕ
  target = take (run solid w) w

  -- a name has no white space
  target_size : run solid w ≡ size + beyond
  target_size = go size refl
    where
      go : (k : ℕ) → size ≡ k → run solid w ≡ size + beyond
      go zero e = rw e (sym (zero-add (run solid w)))
      go (suc k) e =
          let p : Name D (take size w) = name_is_name D w (λ z. let f : suc k ≡ 0 = sym e ∙ z in omega arith) in
          let l : length (take size w) ≡ size = length-take-le size w (name_within D w) in
          ap (run solid) (sym (take-append-drop size w)) ∙ run_solid (take size w) (drop size w) (name_avoids_all D A (ascii " \t\r\n") refl (take size w) p) ∙ ap (λ (n : ℕ). n + beyond) l

  -- so the target has the name, and no longer one
  target_split : target ≡ take size w ++ take beyond (drop size w)
  target_split = ap (λ (n : ℕ). take n w) target_size ∙ take-add size beyond w

  no_shorter : size ≤ name_length D target
  no_shorter = go size refl
    where
      go : (k : ℕ) → size ≡ k → size ≤ name_length D target
      go zero e = omega arith
      go (suc k) e =
          let l : length (take size w) ≡ size = length-take-le size w (name_within D w) in
          let h = name_longest D target (take size w) (take beyond (drop size w)) target_split (name_is_name D w (λ z. let f : suc k ≡ 0 = sym e ∙ z in omega arith)) in
          omega arith

  no_longer : name_length D target ≤ size
  no_longer = go (name_length D target) refl
    where
      go : (k : ℕ) → name_length D target ≡ k → name_length D target ≤ size
      go zero e = omega arith
      go (suc k) e =
          let m : ℕ = name_length D target in
          let l : length (take m target) ≡ m = length-take-le m target (name_within D target) in
          let s : w ≡ take m target ++ (drop m target ++ drop (run solid w) w) =
          sym (take-append-drop (run solid w) w) ∙ ap (λ (u : List ℕ). u ++ drop (run solid w) w) (sym (take-append-drop m target)) ∙ append_assoc (take m target) (drop m target) (drop (run solid w) w) in
          let h = name_longest D w (take m target) (drop m target ++ drop (run solid w) w) s (name_is_name D target (λ z. let f : suc k ≡ 0 = sym e ∙ z in omega arith)) in
          omega arith

  same_size : name_length D target ≡ size
  same_size = let h = no_shorter in let k = no_longer in omega arith

  target_left : length (drop size target) ≡ beyond
  target_left =
      let l : length target ≡ run solid w = length-take-le (run solid w) w (run_within solid w) in
      let m = target_size in
      omega (arith, length-drop size target)

  -- no name begins there
  pub pi_unnamed : size ≡ 0 → check_pi D w ≡ err bad_name 0
  unfolding check_pi check_target check_name ◌>>◌
  pi_unnamed z = rw (name_unread D target (same_size ∙ z))

  module _ (n : size ≡ 0 → ⊥) where
    read_name : name D target ≡ ok size
    read_name = name_read D target (λ z. n (sym same_size ∙ z)) ∙ ap ok same_size

    after_name : (x : List ℕ) → drop size target ≡ x → check_name D target ≡ past size (at_end bad_name x)
    unfolding check_name ◌>>◌
    after_name x e = rw (read_name, e)

    -- something else than white space comes after the name
    pub pi_broken : (beyond ≡ 0 → ⊥) → check_pi D w ≡ err bad_name size
    unfolding check_pi check_target at_end
    pi_broken b = rw (go (drop size target) refl target_left)
      where
        go : (x : List ℕ) → drop size target ≡ x → length x ≡ beyond → check_name D target ≡ err bad_name size
        go [] e l = absurd (b (sym l))
        go (c ∷ x) e l = after_name (c ∷ x) e ∙ ap (err bad_name) (add-zero size)

    -- white space or the end: the name is the target
    module _ (b : beyond ≡ 0) where
      target_is : target ≡ take size w
      target_is = ap (λ (k : ℕ). take k w) (let e = target_size in let z : run solid w ≡ size = omega arith in z)

      target_read : check_name D target ≡ ok size
      unfolding at_end
      target_read = go (drop size target) refl (target_left ∙ b)
        where
          go : (x : List ℕ) → drop size target ≡ x → length x ≡ 0 → check_name D target ≡ ok size
          go [] e l = after_name [] e ∙ ap ok (add-zero size)
          go (c ∷ x) e l = absurd (omega arith)

      pub pi_named : check_pi D w ≡ judged (take size w)
      unfolding check_pi check_target
      pi_named = rw target_read (ap judged target_is)
