-- No variable in the roots of the prelude's declarations has an unknown type as its name: other names can be given to the variables that stand in none of them. And each of its types with labels is a type of its own.
use Rattle.std.proofs.Common.{◌≡◌, ◌∙◌, ◌&&◌, ◌+◌, ℕ, zero, suc, Bool, true, false, List, [], ◌∷◌, Option, refl, sym, ap, subst}
use Rattle.type_model.specs.Types.{Path, Typ, occurs}
use Rattle.type_model.specs.Types.{Typ as type, Typs as types}
use Rattle.type_model.specs.Schemes.{Scheme}
use Rattle.type_model.proofs.Applying.{apply_agree}
use Rattle.signature_model.specs.Declarations as rules
use Rattle.signature_model.specs.Declarations.{type_of, parameters_from}
use Rattle.signature_model.specs.Signatures.{Signature}
use Rattle.signature_model.specs.Signatures as sig
use Rattle.signature_model.specs.Matching.{IsKnown, AreKnown}
use Rattle.signature_model.specs.Entries.{Environment, Referent, a_value, a_constructor, an_exception, a_label, a_type, a_module, a_module_type, entries_in}
use Rattle.typing_laws.proofs.Bools.{no_yes, and_cases}
use Rattle.typing_model.specs.BuiltIns.{exn_type}
use Rattle.type_nodes.specs.Nodes.{Node}
use Rattle.type_nodes.specs.Readings.{Types}
use Rattle.env_table.specs.declared.entries.Constructor.{Constructor}
use Rattle.env_table.specs.declared.entries.Declaration.{Declaration}
use Rattle.env_table.specs.declared.entries.Entry.{Entry}
use Rattle.env_table.specs.declared.entries.Label.{Label}
use Rattle.env_table.specs.declared.entries.Shape.{Shape}
use Rattle.env_table.specs.declared.entries.Sig.{Sig}
use Rattle.env_table.specs.declared.entries.What.{What}
use Rattle.typing_conditions.specs.Locals.{IsOwn}
use Rattle.typing_conditions.specs.Declared.{IsNamed, a_parameter, an_unknown, NoneUnknown, UnknownApart, RootAs, MakesAs, ConstructorAs, LabelAs, OneByOne, no_more, one_more, ShapeAs, tell_nothing, tell_constructors, tell_labels, and_last, with_parameters, DeclaredAs, ExceptionAs}
use Rattle.typing_conditions.specs.Environments.{WhatAs, of_value, of_constructor, of_exception, of_label, of_type, of_module, of_module_type, entry_as, EnvAs, no_names, newest, SigAs, of_hole, of_structure, of_functor}
use Rattle.typing_conditions.specs.Surroundings.{HasOwnLabels}
use Rattle.first_laws.proofs.Specified.{known_there}
use Rattle.first_laws.proofs.Known.{is_known_type, knows_option, type_known, building_known}

-- the name of a variable, which is no constructor
abbrev plain_name : Typ → Typ
plain_name (type.Var k) = type.Var k
plain_name (type.Arrow a b) = type.Arrow a b
plain_name (type.Tuple ts) = type.Tuple ts
plain_name (type.Con o ts) = type.Var 0

abbrev pub plain_names : Types → Types
plain_names N v = plain_name (N v)

never_named : (t : Typ) (o : Path) → plain_name t ≡ type.Con o types.Nil → ⊥
never_named (type.Var k) o e = absurd (cc)
never_named (type.Arrow a b) o e = absurd (cc)
never_named (type.Tuple ts) o e = absurd (cc)
never_named (type.Con p ts) o e = absurd (cc)

pub none_of : (N : Types) (v : ℕ) (o : Path) → plain_names N v ≡ type.Con o types.Nil → ⊥
none_of N v o e = never_named (N v) o e

pub none_unknown : (N : Types) → NoneUnknown (plain_names N)
none_unknown N v o u e = never_named (N v) o e

pub none_apart : (N : Types) → UnknownApart (plain_names N)
none_apart N v w o u e f = absurd (never_named (N v) o e)

-- in the root of a known type each variable is a parameter
root_parameter : {nodes : List Node} {C : List ℕ} {N : Types} {arity r : ℕ} {t : Typ} → RootAs nodes C N arity r t → IsKnown t → (I : Types) → IsOwn nodes I → (v : ℕ) → occurs v (I r) ≡ true → plain_name (N v) ≡ N v
root_parameter {nodes} {C} {N} {arity} {r} {t} root known I own v o = by (root.named I own v o)
  where
    by : IsNamed nodes N arity v → plain_name (N v) ≡ N v
    by (a_parameter scope k e other lt is) = ap plain_name is ∙ sym is
    by (an_unknown p e u is) = absurd (no_yes (sym (subst IsKnown is (known_there N v (I r) o (subst IsKnown (root.is I own) known))).0 ∙ u))

root_plain : {nodes : List Node} {C : List ℕ} {N : Types} {arity r : ℕ} {t : Typ} → RootAs nodes C N arity r t → IsKnown t → RootAs nodes C (plain_names N) arity r t
root_plain {nodes} {C} {N} {arity} {r} {t} root known = record {
  inside = root.inside;
  among = root.among;
  known = root.known;
  is = λ I own. root.is I own ∙ apply_agree N (plain_names N) (I r) (λ v o. sym (root_parameter root known I own v o));
  named = λ I own v o. by v (root_parameter root known I own v o) (root.named I own v o);
  apart = λ I own v w o p e. root.apart I own v w o p (sym (root_parameter root known I own v o) ∙ e ∙ root_parameter root known I own w p);
}
  where
    by : (v : ℕ) → plain_name (N v) ≡ N v → IsNamed nodes N arity v → IsNamed nodes (plain_names N) arity v
    by v same (a_parameter scope k e other lt is) = a_parameter scope k e other lt (same ∙ is)
    by v same (an_unknown p e u is) = an_unknown p e u (same ∙ is)

-- ---- what is known of declarations, by computation

abbrev knows_constructors : List rules.Constructor → Bool
knows_constructors [] = true
knows_constructors (k ∷ ks) = knows_option k.argument && knows_constructors ks

abbrev knows_labels : List rules.Label → Bool
knows_labels [] = true
knows_labels (l ∷ ls) = is_known_type l.body && knows_labels ls

abbrev is_own : rules.Definition → Bool
is_own (rules.Own o) = true
is_own (rules.Is t) = false

abbrev knows_shape : rules.Definition → rules.Shape → Bool
knows_shape d rules.Opaque = true
knows_shape d (rules.Variant ks) = knows_constructors ks
knows_shape d (rules.Labels ls) = is_own d && knows_labels ls

abbrev knows_rule : rules.Declaration → Bool
knows_rule e = is_known_type (type_of e) && knows_shape e.definition e.shape

abbrev is_value : Referent → Bool
is_value (a_value s) = true
is_value _ = false

abbrev are_values : Environment → Bool
are_values [] = true
are_values (e ∷ es) = is_value e.stands_for && are_values es

abbrev knows_signature : Signature → Bool
knows_signature sig.Hole = true
knows_signature (sig.Structure cs) = are_values (entries_in cs)
knows_signature (sig.Functor pm p bm b) = false

abbrev knows_referent : Referent → Bool
knows_referent (a_value s) = true
knows_referent (a_constructor e k) = knows_rule e
knows_referent (an_exception o) = knows_option o
knows_referent (a_label e l) = knows_rule e
knows_referent (a_type e) = knows_rule e
knows_referent (a_module s) = knows_signature s
knows_referent (a_module_type t) = false

abbrev pub knows_names : Environment → Bool
knows_names [] = true
knows_names (e ∷ es) = knows_referent e.stands_for && knows_names es

-- ---- and by their roots

parameters_known : (j k : ℕ) (t : Typ) → IsKnown t → AreKnown (and_last (parameters_from j k) t)
parameters_known j zero t known = (known, tt)
parameters_known j (suc k) t known = (tt, parameters_known (j + 1) k t known)

with_known : (k : ℕ) (t : Typ) → IsKnown t → IsKnown (with_parameters k t)
with_known zero t known = known
with_known (suc k) t known = parameters_known 0 (suc k) t known

makes_plain : {nodes : List Node} {C : List ℕ} {N : Types} {arity : ℕ} {c : Constructor} {result : Typ} {o : Option Typ} → IsKnown result → knows_option o ≡ true → MakesAs nodes C N arity c result o → MakesAs nodes C (plain_names N) arity c result o
makes_plain {result = result} {o = o} known h m = record { takes = m.takes; root = root_plain m.root (building_known result o known h) }

constructors_plain : {nodes : List Node} {C : List ℕ} {N : Types} {arity : ℕ} {owner : Typ} {cs : List Constructor} {ks : List rules.Constructor} → IsKnown owner → knows_constructors ks ≡ true → OneByOne (ConstructorAs nodes C N arity owner) cs ks → OneByOne (ConstructorAs nodes C (plain_names N) arity owner) cs ks
constructors_plain known h no_more = no_more
constructors_plain known h (one_more {y = k} {ys = ks} c cs) = let (first, others) = and_cases (knows_option k.argument) (knows_constructors ks) h in one_more (record { name = c.name; makes = makes_plain known first c.makes }) (constructors_plain known others cs)

labels_plain : {nodes : List Node} {C : List ℕ} {N : Types} {arity : ℕ} {owner : Typ} {ls : List Label} {ks : List rules.Label} → IsKnown owner → knows_labels ks ≡ true → OneByOne (LabelAs nodes C N arity owner) ls ks → OneByOne (LabelAs nodes C (plain_names N) arity owner) ls ks
labels_plain known h no_more = no_more
labels_plain known h (one_more {y = k} {ys = ks} l ls) =
    let (first, others) = and_cases (is_known_type k.body) (knows_labels ks) h in
    one_more (record { name = l.name; mutable = l.mutable; root = root_plain l.root (known, type_known k.body first) }) (labels_plain known others ls)

shape_plain : {nodes : List Node} {C : List ℕ} {N : Types} {arity : ℕ} {owner : Typ} {s : Shape} {z : rules.Shape} (d : rules.Definition) → IsKnown owner → knows_shape d z ≡ true → ShapeAs nodes C N arity owner s z → ShapeAs nodes C (plain_names N) arity owner s z
shape_plain d known h (tell_nothing e) = tell_nothing e
shape_plain d known h (tell_constructors e cs) = tell_constructors e (constructors_plain known h cs)
shape_plain d known h (tell_labels {ks = ks} e ls) = tell_labels e (labels_plain known (and_cases (is_own d) (knows_labels ks) h).1 ls)

own_path : (d : rules.Definition) → is_own d ≡ true → (o : Path) × (d ≡ rules.Own o)
own_path (rules.Own o) h = (o, refl)
own_path (rules.Is t) h = absurd (no_yes h)

own_labels : (e : rules.Declaration) → knows_rule e ≡ true → HasOwnLabels e
own_labels e h ls is = own_path e.definition (and_cases (is_own e.definition) (knows_labels ls) (ap (knows_shape e.definition) (sym is) ∙ (and_cases (is_known_type (type_of e)) (knows_shape e.definition e.shape) h).1)).0

declaration_plain : {nodes : List Node} {C : List ℕ} {N : Types} (d : Declaration) (e : rules.Declaration) → knows_rule e ≡ true → DeclaredAs nodes C N d e → DeclaredAs nodes C (plain_names N) d e × HasOwnLabels e
declaration_plain d e h as_declared =
    let (owner, shape) = and_cases (is_known_type (type_of e)) (knows_shape e.definition e.shape) h in
    let known = type_known (type_of e) owner in (
      record {
        arity = as_declared.arity;
        origin = as_declared.origin;
        defines = as_declared.defines;
        root = root_plain as_declared.root (with_known e.arity (type_of e) known);
        shape = shape_plain e.definition known shape as_declared.shape;
      },
      own_labels e h,
    )

exn_known : IsKnown exn_type
exn_known = (refl, tt)

-- ---- names of the code

module _ (R S : ℕ → Scheme → Type 0) (on_scheme : (n : ℕ) (s : Scheme) → R n s → S n s) (nodes : List Node) (C : List ℕ) (N : Types) where
  abbrev Before : Declaration → rules.Declaration → Type 0
  Before d e = DeclaredAs nodes C N d e

  abbrev After : Declaration → rules.Declaration → Type 0
  After d e = DeclaredAs nodes C (plain_names N) d e × HasOwnLabels e

  abbrev X : Constructor → Option Typ → Type 0
  X c o = ExceptionAs nodes C N c o

  abbrev Y : Constructor → Option Typ → Type 0
  Y c o = ExceptionAs nodes C (plain_names N) c o

  value_what : {w : What} {f : Referent} → WhatAs R Before X w f → is_value f ≡ true → WhatAs S After Y w f
  value_what (of_value {n = n} {sc = sc} e r) h = of_value e (on_scheme n.0 sc r)
  value_what (of_constructor e d at) h = absurd (no_yes h)
  value_what (of_exception e x) h = absurd (no_yes h)
  value_what (of_label e d at) h = absurd (no_yes h)
  value_what (of_type e d) h = absurd (no_yes h)
  value_what (of_module e s) h = absurd (no_yes h)
  value_what (of_module_type e t) h = absurd (no_yes h)

  value_env : {es : List Entry} {fs : Environment} → EnvAs R Before X es fs → are_values fs ≡ true → EnvAs S After Y es fs
  value_env no_names h = no_names
  value_env (newest {f = f} {fs = fs} (entry_as n k p w) hs) h = let (first, others) = and_cases (is_value f.stands_for) (are_values fs) h in newest (entry_as n k p (value_what w first)) (value_env hs others)

  sig_plain : {s : Sig} {T : Signature} → SigAs R Before X s T → knows_signature T ≡ true → SigAs S After Y s T
  sig_plain (of_hole e) h = of_hole e
  sig_plain (of_structure e env) h = of_structure e (value_env env h)
  sig_plain (of_functor e p b) h = absurd (no_yes h)

  what_plain : {w : What} {f : Referent} → WhatAs R Before X w f → knows_referent f ≡ true → WhatAs S After Y w f
  what_plain (of_value {n = n} {sc = sc} e r) h = of_value e (on_scheme n.0 sc r)
  what_plain (of_constructor {d = d} {e = x} e stands at) h = of_constructor e (declaration_plain d.value x h stands) at
  what_plain (of_exception e x) h = of_exception e (makes_plain exn_known h x)
  what_plain (of_label {d = d} {e = x} e stands at) h = of_label e (declaration_plain d.value x h stands) at
  what_plain (of_type {d = d} {e = x} e stands) h = of_type e (declaration_plain d.value x h stands)
  what_plain (of_module e s) h = of_module e (sig_plain s h)
  what_plain (of_module_type e t) h = absurd (no_yes h)

  -- Names for which all of that is known stand for the same where the variables in their roots are named anew.
  pub env_plain : {es : List Entry} {fs : Environment} → EnvAs R Before X es fs → knows_names fs ≡ true → EnvAs S After Y es fs
  env_plain no_names h = no_names
  env_plain (newest {f = f} {fs = fs} (entry_as n k p w) hs) h = let (first, others) = and_cases (knows_referent f.stands_for) (knows_names fs) h in newest (entry_as n k p (what_plain w first)) (env_plain hs others)
