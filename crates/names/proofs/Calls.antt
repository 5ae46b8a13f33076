-- What the public calls promise, by any edition's names: their rule agrees with the grammar, and its places lie within the text. Assumes
-- nothing.
use Rattle.spec.specs.Grammar.Names.{Name}
use Rattle.spec.specs.Reading.Wellformed.{check_name}
use Rattle.spec.proofs.Agreement.Accepts.{Agrees}
use Rattle.spec.proofs.Inside.Checks.{Placed, name_placed}
use Rattle.spec.proofs.Wellformed.Checks.{name_agrees}
use Rattle.source.proofs.Admitting.{calling}
use Rattle.source.proofs.Placing.{stopping}
use Rattle.classes.specs.Classes.{dialect}
use Rattle.classes.specs.declared.Names.{Names}
use Rattle.classes.proofs.ClassLaws.{dialect_ascii}

pub name_agrees_by : (names : Names) → Agrees (check_name (dialect names)) (Name (dialect names))
name_agrees_by names = name_agrees (dialect names) (dialect_ascii names)

pub ruleset calls = (calling, name_agrees_by)

pub name_placed_by : (names : Names) → Placed (check_name (dialect names))
name_placed_by names = name_placed (dialect names)

pub ruleset located = (stopping, name_placed_by)
