-- How far a query is known to hold, at each level of parentheses, after some of its tokens.
use Rattle.std.specs.Prelude.{List, [], ◌∷◌, length, Bool, true, false, not, ◌&&◌, ◌||◌, if◌then◌else◌, ltb, Option}
use Rattle.std.specs.Prelude.{Some, None}
use Rattle.std.specs.List.{list_any}
use Rattle.dobj_model.specs.declared.object.ObjectValue.{ObjectValue}
use Rattle.dobj_field.specs.Reach.{reached, passes}
use Rattle.query_core.specs.declared.matching.Level.{Level}
use Rattle.query_text.specs.declared.query.Token.{Token}
use Rattle.query_text.specs.declared.query.Token.TheVariants.{Open, Close, Not, And, Or, Every, Test}

-- before the first token of a level
abbrev pub fresh : Level
fresh = record { found = false; all = true; negated = false }

-- what is known of the level, if it ends here
abbrev pub known : Level → Bool
known level = level.found || level.all

-- a `NOT` before the next term
abbrev pub turned : Level → Level
turned level = record { found = level.found; all = level.all; negated = not level.negated }

-- after an `OR`
abbrev pub next_conjunction : Level → Level
next_conjunction level = record { found = level.found || level.all; all = true; negated = false }

-- after a term without its `NOT`s, by whether that holds
abbrev pub joined : Level → Bool → Level
joined level value = record {
  found = level.found;
  all =
      level.all && (if level.negated then not value else value);
  negated = false;
}

-- what the rest of the tokens gives, with the levels round this one, the nearest first; none where parentheses don't
-- match or more than 64 are open
abbrev pub outcome : ObjectValue → Level → List Level → List Token → Option Bool
outcome object level outer [] = Some (known level)
outcome object level outer (Open ∷ rest) =
    if ltb (length outer) 64 then outcome object fresh (level ∷ outer) rest else None
outcome object level [] (Close ∷ rest) = None
outcome object level (around ∷ outer) (Close ∷ rest) = outcome object (joined around (known level)) outer rest
outcome object level outer (Not ∷ rest) = outcome object (turned level) outer rest
outcome object level outer (And ∷ rest) = outcome object level outer rest
outcome object level outer (Or ∷ rest) = outcome object (next_conjunction level) outer rest
outcome object level outer (Every ∷ rest) = outcome object (joined level true) outer rest
outcome object level outer (Test field on ∷ rest) =
    outcome object (joined level (list_any (passes on) (reached field object))) outer rest
