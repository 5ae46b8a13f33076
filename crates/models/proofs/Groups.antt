-- Groups of particles: their height, and the loop over their connectors. Assumes nothing.
use mathlib.Core.Path.{◌≡◌, refl, sym, ◌∙◌}
use mathlib.Core.Logic.{◌⊎◌, inl, inr}
use mathlib.Core.Bool.{Bool, true, false}
use mathlib.Core.List.{List, [], ◌∷◌}
use Prim.Native.Nat.{ℕ, zero, suc, ◌+◌, ◌-◌}
use native.Mathlib.Nat.{add-zero}
use native.Mathlib.Numerals.{sub-one}
use borrow.Author.Rules.{rules}
use lib.Dec.{eqb}
use lib.ListN.{get_or, drop}
use Rattle.std.specs.Prelude.{Ok, Err}
use Rattle.spec.specs.Grammar.Characters.{space}
use Rattle.spec.specs.Grammar.Names.{Dialect}
use Rattle.spec.specs.Reading.Refusals.{too_deep, unexpected, bad_connector}
use Rattle.spec.specs.Reading.Readers.{Reader, ◌>>◌, nothing, refuse, starts, choose, on, word, run, while}
use Rattle.spec.specs.Reading.Wellformed.{name}
use Rattle.spec.specs.Reading.Dtd.{skip_s, after, connector, connected, group_of, occurs, cp_of, parse_group}
use Rattle.spec.proofs.Base.Loops.{Somes, while_stop}
use Rattle.spec.proofs.Base.Places.{front_at}
use Rattle.spec.proofs.Base.Somes.{some_choose, some_refuse}
use Rattle.spec.proofs.Base.Tests.{decide, eqb-true}
use Rattle.error.specs.Read.{Said, said, read, Answer, refused}
use Rattle.error.specs.declared.Fault.{Fault}
use Rattle.error.proofs.Laws.{seq_no, seq_at, choose_yes, choose_no, refuses}
use Rattle.search.proofs.Words.{word_no, word_fits}
use Rattle.classes.specs.Classes.{dialect}
use Rattle.classes.specs.declared.Names.{Names}
use Rattle.classes.specs.declared.Names.TheVariants.{AppendixB, FifthEdition}
use Rattle.models.specs.Parts.{group_end}
use Rattle.models.proofs.Signs.{sign_yes, connector_ends, some_sign, steps, after_sign, after_no, after_at}
use Rattle.error.proofs.Whiles.{unroll, whiles}

-- by the height
pub group_none : (D : Dialect) (h at : ℕ) (s : List ℕ) (x : Fault) → h ≡ 0 → said (Err x) ≡ refused too_deep at → said (Err x) ≡ read (parse_group D too_deep h) s at
unfolding read parse_group refuse
group_none D h at s x e f = f ∙ (rw (e, add-zero))

pub group_some : (D : Dialect) (h at : ℕ) (s : List ℕ) (q : Said) → (h ≡ 0 → ⊥) → q ≡ read (word "(" unexpected >> skip_s >> cp_of D (parse_group D too_deep (h - 1)) >> skip_s >> group_end (cp_of D (parse_group D too_deep (h - 1)))) s at → q ≡ read (parse_group D too_deep h) s at
unfolding parse_group group_of group_end
group_some D zero at s q n a = absurd (n refl)
group_some D (suc h) at s q n a = rw sub-one at a

pub all_groups : (n : Names) (at : ℕ) (s : List ℕ) (q : Said) → q ≡ read (parse_group (dialect n) too_deep 64) s at → q ≡ read (parse_group (dialect n) too_deep (dialect n).groups) s at
unfolding dialect
all_groups AppendixB at s q a = a
all_groups FifthEdition at s q a = a

-- a particle
pub cp_some : (D : Dialect) (G : Reader) (at : ℕ) (s : List ℕ) (q : Said) → q ≡ read (on "(" G (name D) >> occurs) s at → q ≡ read (cp_of D G) s at
unfolding cp_of
cp_some D G at s q a = a

-- A turn of the loop, where q was the first connector.
unfoldable pub turn : ℕ → Reader → Reader
turn q cp = choose (starts (q ∷ [])) (after_sign q cp) (refuse bad_connector)

pub some_turn : (q : ℕ) (cp : Reader) → Somes (turn q cp)
unfolding turn
some_turn q cp = some_choose (starts (q ∷ [])) (after_sign q cp) (refuse bad_connector) (some_sign q unexpected (skip_s >> cp >> skip_s)) (some_refuse bad_connector)

-- b is whether q stands at a place, and r the answer for the particle after it
module _ (q : ℕ) (cp : Reader) (s : List ℕ) (at : ℕ) (b : Bool) (e : b ≡ starts (q ∷ []) (drop at s)) where
  pub turn_other : (x : Fault) → b ≡ false → said (Err x) ≡ refused bad_connector at → said (Err x) ≡ read (turn q cp) s at
  unfolding turn
  turn_other x n f = choose_no (starts (q ∷ [])) (after_sign q cp) (refuse bad_connector) s at b (said (Err x)) e n (refuses bad_connector s at x f)

  module _ (y : b ≡ true) (i : ℕ) (r : Answer) (hi : i ≡ at + 1 + run space (drop (at + 1) s)) (hr : said r ≡ read cp s i) where
    pub turn_no : (x : Fault) → r ≡ Err x → said (Err x) ≡ read (turn q cp) s at
    unfolding turn
    turn_no x f = choose_yes (starts (q ∷ [])) (after_sign q cp) (refuse bad_connector) s at b (said (Err x)) e y (after_no q cp s at b e y i r hi hr x f)

    pub turn_at : (d j : ℕ) → r ≡ Ok d → j ≡ d + run space (drop d s) → said (Ok j) ≡ read (turn q cp) s at
    unfolding turn
    turn_at d j f hj = choose_yes (starts (q ∷ [])) (after_sign q cp) (refuse bad_connector) s at b (said (Ok j)) e y (after_at q cp s at b e y i r hi hr d j f hj)

module _ (cp : Reader) where
  -- where q stands, the loop is what is read after the first particle
  first_turn : (q : ℕ) (w : List ℕ) → starts (q ∷ []) w ≡ true → connector w ≡ true
      → while connector (turn q cp) w ≡ (after_sign q cp >> while connector (turn q cp)) w
  unfolding ◌>>◌ choose turn
  first_turn q w e f = unroll connector (turn q cp) connector_ends (some_turn q cp) w f ∙ (rw e)

  rest_is : (w : List ℕ) → while connector (turn (get_or w 0 0) cp) w ≡ on "|" (connected "|" cp) (on "," (connected "," cp) nothing) w
  unfolding on choose starts nothing connected after connector turn
  rest_is [] = while_stop connector (turn 0 cp) [] refl
  rest_is (b ∷ w) = go (decide (eqb b 124)) (decide (eqb b 44))
    where
      go : (eqb b 124 ≡ true) ⊎ (eqb b 124 ≡ false) → (eqb b 44 ≡ true) ⊎ (eqb b 44 ≡ false) → while connector (turn b cp) (b ∷ w) ≡ on "|" (connected "|" cp) (on "," (connected "," cp) nothing) (b ∷ w)
      go (inl e) f = rw (eqb-true b 124 e) (first_turn 124 (124 ∷ w) refl refl)
      go (inr e) (inl f) = rw (eqb-true b 44 f) (first_turn 44 (44 ∷ w) refl refl)
      go (inr e) (inr f) = while_stop connector (turn b cp) (b ∷ w) (rw (e, f)) ∙ (rw (e, f))

  -- at a place: q is the byte there, whether a connector or not
  pub group_rest : (s : List ℕ) (j q : ℕ) → q ≡ get_or s j 0 → read (while connector (turn q cp) >> word ")" unexpected) s j ≡ read (group_end cp) s j
  unfolding read ◌>>◌ group_end
  group_rest s j q e = rw (e ∙ sym (front_at s j), rest_is (drop j s))

-- what groups and particles search, the loop over the connectors, and the outermost group
pub ruleset grouping = (group_none, group_some, cp_some, seq_no, seq_at, steps)

pub ruleset group_loop = (whiles, connector_ends, some_turn, turn_no, turn_at, turn_other, group_rest, sign_yes, word_no, word_fits, rules)

pub ruleset children = (all_groups, seq_no, seq_at, rules)
