-- Names that are bound, after further calls and one behind another.
use Rattle.std.proofs.Common.{◌∙◌, ◌++◌, List, [], sym, ap, append_assoc, append-nil}
use Rattle.signature_model.specs.Declarations.{Name}
use Rattle.typing_model.specs.Contexts.{Bound}
use Rattle.typing_conditions.specs.Sights.{Sight, Letters}
use Rattle.typing_conditions.specs.Frames.{Frame}
use Rattle.typing_conditions.specs.Carrying.{Stays}
use Rattle.typing_conditions.proofs.Meaning.{means_on}
use Rattle.typing_conditions.proofs.Stays.{agrees_before}
use Rattle.pattern_rows.specs.Bounds.{Bind, IsBound, AllBound, none_bound, one_bound, Adds}

-- a name that is bound still is
pub bound_on : {F : Frame} {a b : Sight} {G H : Letters} {x : Bound} {y : Bind} → Stays F a G b H → IsBound F a G x y → IsBound F b H x y
bound_on s h = record { named = h.named; placed = h.placed; chosen = h.chosen; means = means_on s h.means; known = λ V ch g. h.known V ch (agrees_before s g); entry = h.entry }

-- so are names
pub all_bound_on : {F : Frame} {a b : Sight} {G H : Letters} {xs : List Bound} {ys : List Bind} → Stays F a G b H → AllBound F a G xs ys → AllBound F b H xs ys
all_bound_on s none_bound = none_bound
all_bound_on s (one_bound h hs) = one_bound (bound_on s h) (all_bound_on s hs)

-- names and others
pub all_bound_both : {F : Frame} {a : Sight} {G : Letters} {xs xs' : List Bound} {ys ys' : List Bind} → AllBound F a G xs ys → AllBound F a G xs' ys' → AllBound F a G (xs ++ xs') (ys ++ ys')
all_bound_both none_bound h = h
all_bound_both (one_bound p ps) h = one_bound p (all_bound_both ps h)

-- no name is added
pub adds_none : (names : List Bind) (seen : List Name) → Adds names names [] seen seen []
adds_none names seen = record { binds = sym (append-nil names); sees = sym (append-nil seen) }

-- some names, and then others
pub adds_both : {xs ys zs more others : List Bind} {seen now then mentions further : List Name} → Adds xs ys more seen now mentions → Adds ys zs others now then further → Adds xs zs (more ++ others) seen then (mentions ++ further)
adds_both {xs = xs} {more = more} {others = others} {seen = seen} {mentions = mentions} {further = further} p q = record {
  binds = q.binds ∙ ap (λ ns. ns ++ others) p.binds ∙ append_assoc xs more others;
  sees = q.sees ∙ ap (λ ns. ns ++ further) p.sees ∙ append_assoc seen mentions further;
}
