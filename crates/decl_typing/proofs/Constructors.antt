-- The constructors of a declaration: the types of their arguments, in order, and then that their names are new.
use Rattle.std.proofs.Common.{◌≡◌, ◌∙◌, ◌++◌, ◌+◌, ◌<◌, ◌||◌, ℕ, zero, suc, Bool, true, false, not, List, [], ◌∷◌, length, map, drop, Option, Some, None, option_map, refl, sym, ap, subst, append_assoc, append-nil, arith, if◌then◌else◌}
use Rattle.std.specs.Prelude.{All, slice_index_or}
use Rattle.std.specs.Str.{bytes_eq}
use Rattle.std.proofs.lemmas.List.{drop_more}
use Rattle.std.proofs.lemmas.List.Elements.{All-head, All-tail}
use Rattle.std.proofs.lemmas.Slice.Eq.{bytes_eq-Decides}
use Rattle.token_model.specs.Kinds.{Tok}
use Rattle.text_terms.specs.Bytes.{str_bytes}
use Rattle.syntax_tree.specs.View.{place_of, tok_of}
use Rattle.syntax_tree.specs.declared.tree.Token.{Token}
use denote.Ref.{Bor}
use Rattle.row_parts.specs.declared.slots.Operand.{Operand}
use Rattle.row_parts.specs.Numbered.{operand_view}
use Rattle.type_model.specs.Types.{Typ}
use Rattle.signature_model.specs.Declarations.{Name}
use Rattle.typing_model.specs.Demands.{site, twice, test}
use Rattle.typing_model.specs.Contexts.{Context, tell, ask}
use Rattle.typing_model.specs.Parts as parts
use Rattle.typing_model.specs.Parts.{TypeExpression, ConstructorPart}
use Rattle.typing_model.specs.Records.{is_among}
use Rattle.typing_model.specs.Declarations.{read_optional, constructors_read, constructors_new}
use Rattle.env_table.specs.declared.entries.Entry.{Entry}
use Rattle.typing_state.specs.declared.parts.Parts.{Parts}
use Rattle.typing_state.specs.Goes.{Goes}
use Rattle.typing_conditions.proofs.Equals.{judged_as}
use Rattle.typing_conditions.specs.Sights.{Sight}
use Rattle.typing_conditions.specs.Carrying.{Asks}
use Rattle.typing_steps.specs.States.{is_aloud, sight}
use Rattle.operand_laws.specs.Operands.{type_of}
use Rattle.typing_rows.specs.Settled.{Before, behind, Around}
use Rattle.typing_rows.specs.DeclaredOperands.{SettlesOperand}
use Rattle.typing_rows.proofs.Settling.{settled_none, settled_trans, settled_here, settled_told, fixed_left, fixed_right}
use Rattle.typing_rows.proofs.Judging.{Judges, test_judges, complaint_judges}
use Rattle.decl_groups.specs.declared.groups.ConstructorPart.{ConstructorPart as CodePart}
use Rattle.decl_typing.specs.Fresh.{AsksNew}
use Rattle.decl_typing.proofs.Settling.{none_settles}
use Rattle.decl_typing.specs.Settling.{OptionSettled, SettlesOption, constructor_as, constructors_as, IsOperandIf, HasOperand, argument_at, FirstConstructors, FirstNames, NamesSettled, ConstructorsSettled}

-- the first constructors and one more are read
pub read_more : (c : Context) (ks : List ConstructorPart) (k : ConstructorPart) → constructors_read c ks ++ (tell k.node c ++ read_optional c k.argument) ≡ constructors_read c (ks ++ k ∷ [])
read_more c [] k = ap (λ cs. tell k.node c ++ cs) (sym (append-nil (read_optional c k.argument)))
read_more c (j ∷ ks) k =
    append_assoc (tell j.node c ++ read_optional c j.argument) (constructors_read c ks) (tell k.node c ++ read_optional c k.argument) ∙ ap (λ cs. tell j.node c ++ read_optional c j.argument ++ cs) (read_more c ks k)

pub types_more : (f : ConstructorPart → Option Typ) (ks : List ConstructorPart) (k : ConstructorPart) → map f (ks ++ k ∷ []) ≡ map f ks ++ f k ∷ []
types_more f [] k = refl
types_more f (j ∷ ks) k = ap (λ ts. f j ∷ ts) (types_more f ks k)

-- no constructor yet
abbrev pub none_read : {B : Before} {a : Sight} (all : List ConstructorPart) → FirstConstructors B all all a a
none_read {a = a} all = record { done = []; judged = []; told = []; fixes = []; types = []; reports = sym (append-nil a.reports); settled = settled_none; gives = λ ch h. refl; split = refl }

-- one constructor more
abbrev pub one_read : {B : Before} {a b d : Sight} {all left : List ConstructorPart} (k : ConstructorPart) (x : FirstConstructors B all (k ∷ left) a b) → OptionSettled (behind B x.judged x.fixes) (λ c. tell k.node c ++ read_optional c k.argument) k.argument b d → FirstConstructors B all left a d
one_read {a = a} {left = left} k x y = record {
  done = x.done ++ k ∷ [];
  judged = x.judged ++ y.judged;
  told = x.told ++ y.told;
  fixes = x.fixes ++ y.fixes;
  types = x.types ++ y.type ∷ [];
  reports = y.reports ∙ ap (λ rs. rs ++ y.told) x.reports ∙ append_assoc a.reports x.told y.told;
  settled = settled_here (λ c h. read_more c x.done k) (settled_trans x.settled y.settled);
  gives = λ ch h.
      let before = x.gives ch (fixed_left ch x.fixes y.fixes h) in
      let now = y.gives ch (fixed_right ch x.fixes y.fixes h) in
      types_more (argument_at ch) x.done k ∙ (λ i. before i ++ now i ∷ []);
  split = x.split ∙ sym (append_assoc x.done (k ∷ []) left);
}

-- no name yet
pub no_names : {B : Before} {a : Sight} (all : List ConstructorPart) → FirstNames B all all [] a a
no_names {a = a} all = record { done = []; judged = []; told = []; reports = sym (append-nil a.reports); settled = settled_none; split = refl }

-- a constructor whose name is missing
pub no_name : {B : Before} {a b : Sight} {all left : List ConstructorPart} {seen : List Name} (k : ConstructorPart) → k.name ≡ None → FirstNames B all (k ∷ left) seen a b → FirstNames B all left seen a b
no_name {left = left} {seen = seen} k none x = record {
  done = x.done;
  judged = x.judged;
  told = x.told;
  reports = x.reports;
  settled = x.settled;
  split = x.split ∙ ap (λ (o : Option Tok). x.done ++ elim o [ None ↦ constructors_new seen left | Some t ↦ ask k.node 0 (parts.place_of t) (test (twice t.name) (not (is_among t.name seen))) ++ constructors_new (seen ++ t.name ∷ []) left ]) none;
}

-- one name more
pub one_name : {B : Before} {a b d : Sight} {all left : List ConstructorPart} {seen : List Name} (k : ConstructorPart) (t : Tok) → k.name ≡ Some t → (x : FirstNames B all (k ∷ left) seen a b) →
    Judges (behind B x.judged []) (λ c. ask k.node 0 (parts.place_of t) (test (twice t.name) (not (is_among t.name seen)))) b d (site k.node 0) (not (is_among t.name seen)) → FirstNames B all left (seen ++ t.name ∷ []) a d
one_name {a = a} {left = left} {seen = seen} k t there x y = record {
  done = x.done ++ ask k.node 0 (parts.place_of t) (test (twice t.name) (not (is_among t.name seen)));
  judged = x.judged ++ judged_as (site k.node 0) (not (is_among t.name seen));
  told = x.told ++ y.told;
  reports = y.reports ∙ ap (λ rs. rs ++ y.told) x.reports ∙ append_assoc a.reports x.told y.told;
  settled = settled_trans x.settled y.settled;
  split =
      x.split ∙ ap (λ (o : Option Tok). x.done ++ elim o [ None ↦ constructors_new seen left | Some t ↦ ask k.node 0 (parts.place_of t) (test (twice t.name) (not (is_among t.name seen))) ++ constructors_new (seen ++ t.name ∷ []) left ]) there ∙
      sym (append_assoc x.done (ask k.node 0 (parts.place_of t) (test (twice t.name) (not (is_among t.name seen)))) (constructors_new (seen ++ t.name ∷ []) left));
}

-- all names
pub all_names : {B : Before} {a b : Sight} {all : List ConstructorPart} (seen : List Name) → FirstNames B all [] seen a b → NamesSettled B all a b
all_names seen x = record { judged = x.judged; told = x.told; reports = x.reports; settled = settled_here (λ c h. sym (x.split ∙ append-nil x.done)) x.settled }

-- all constructors, and then their names
abbrev pub all_constructors : {B : Before} {a b d : Sight} {all : List ConstructorPart} (x : FirstConstructors B all [] a b) → NamesSettled (behind B x.judged x.fixes) all b d → ConstructorsSettled B all a d
all_constructors {a = a} {all = all} x y =
    let whole : all ≡ x.done = x.split ∙ append-nil x.done in
    record {
      judged = x.judged ++ y.judged;
      told = x.told ++ y.told;
      fixes = x.fixes ++ [];
      types = x.types;
      reports = y.reports ∙ ap (λ rs. rs ++ y.told) x.reports ∙ append_assoc a.reports x.told y.told;
      settled = settled_here (λ c h. ap (λ ks. constructors_read c ks ++ constructors_new [] all) (sym whole)) (settled_trans x.settled y.settled);
      gives = λ ch h. ap (map (argument_at ch)) whole ∙ x.gives ch (fixed_left ch x.fixes [] h);
    }

-- the demand that a name is new, as a call asks it
pub new_judges : (a b : Parts) {B : Before} (n k : ℕ) (t : Token) (again : Bool) → is_aloud a.telling ≡ true → AsksNew again t a b →
    Judges B (λ c. ask n k (place_of t.span) (test (twice (str_bytes t.name)) (not again))) (sight a) (sight b) (site n k) (not again)
new_judges a b n k t true aloud told = complaint_judges a b (twice (str_bytes t.name)) (site n k) aloud told
new_judges a b n k t false aloud same = test_judges (twice (str_bytes t.name)) (site n k) true (ap (λ p. (sight p).reports) same)

-- whether two names are one doesn't depend on which of them comes first
names_turned : (x y : List ℕ) → bytes_eq x y ≡ bytes_eq y x
names_turned x y = by (bytes_eq x y) (bytes_eq y x) (bytes_eq-Decides x y).0 (bytes_eq-Decides x y).1 (bytes_eq-Decides y x).0 (bytes_eq-Decides y x).1
  where
    by : (b c : Bool) → (b ≡ true → x ≡ y) → (x ≡ y → b ≡ true) → (c ≡ true → y ≡ x) → (y ≡ x → c ≡ true) → b ≡ c
    by true true p q r s = refl
    by false false p q r s = refl
    by true false p q r s = sym (s (sym (p refl)))
    by false true p q r s = q (sym (r refl))

-- a name among names and one more
pub among_more : (q x : Name) (seen : List Name) → (if bytes_eq x q then true else is_among q seen) ≡ is_among q (seen ++ x ∷ [])
among_more q x [] = by (bytes_eq x q) (bytes_eq q x) (names_turned x q)
  where
    by : (b c : Bool) → b ≡ c → (if b then true else false) ≡ (c || false)
    by true true e = refl
    by false false e = refl
    by true false e = absurd (cc)
    by false true e = absurd (cc)
among_more q x (s ∷ seen) = by (bytes_eq x q) (bytes_eq q s) (is_among q seen) (is_among q (seen ++ x ∷ [])) (among_more q x seen)
  where
    by : (b c u v : Bool) → (if b then true else u) ≡ v → (if b then true else (c || u)) ≡ (c || v)
    by true true u v e = refl
    by true false u v e = e
    by false c u v e = ap (λ w. c || w) e

-- the argument of a constructor that has one
pub root_some : (a b d : Parts) (env : List Entry) (names : List Name) (p : CodePart) (o : Operand) → p.argument ≡ Some o → (sight d).reports ≡ (sight b).reports → SettlesOperand a b env names (operand_view o) → HasOperand p →
    SettlesOption a d env names (λ c. read_optional c (constructor_as a.item p).argument) (constructor_as a.item p).argument
root_some a b d env names p o there kept read has =
    subst (λ (x : Option Operand). SettlesOption a d env names (λ c. read_optional c (option_map (type_of a.item) (option_map operand_view x))) (option_map (type_of a.item) (option_map operand_view x))) (sym there) (λ aloud B around.
    let x = read (subst IsOperandIf there has) aloud B around in
    record { judged = x.judged; told = x.told; fixes = x.fixes; type = Some x.type; given = refl; reports = kept ∙ x.reports; settled = x.settled; gives = λ ch h. ap Some (x.gives ch h) })

-- and of one that has none
pub root_none : (a : Parts) (env : List Entry) (names : List Name) (p : CodePart) → p.argument ≡ None → SettlesOption a a env names (λ c. read_optional c (constructor_as a.item p).argument) (constructor_as a.item p).argument
root_none a env names p none =
    subst (λ (x : Option Operand). SettlesOption a a env names (λ c. read_optional c (option_map (type_of a.item) (option_map operand_view x))) (option_map (type_of a.item) (option_map operand_view x))) (sym none) (none_settles a a env names refl)

-- a constructor whose argument is read
pub part_settles : (a b d : Parts) (env : List Entry) (names : List Name) (asks : Asks) (o : Option TypeExpression) (n : ℕ) → (sight d).reports ≡ (sight b).reports → SettlesOption a b env names asks o → SettlesOption a d env names (λ c. tell n c ++ asks c) o
part_settles a b d env names asks o n kept read = λ aloud B around.
    let x = read aloud (behind B [] []) around in
    record { judged = x.judged; told = x.told; fixes = x.fixes; type = x.type; given = x.given; reports = kept ∙ x.reports; settled = settled_trans (settled_told n) x.settled; gives = x.gives }

-- the part at a place
pub has_there : (ps : List CodePart) (i : ℕ) (x : CodePart) → i < length ps → x ≡ slice_index_or ps i x → All HasOperand ps → HasOperand x
has_there [] i x lt e all = absurd (omega arith)
has_there (p ∷ ps) zero x lt e all = subst HasOperand (sym e) (All-head HasOperand p ps all)
has_there (p ∷ ps) (suc i) x lt e all = has_there ps i x (omega arith) e (All-tail HasOperand p ps all)

-- what is left begins with the part at a place
pub left_there : (i : ℕ) (ps : List CodePart) (k : ℕ) (x : CodePart) → k < length ps → x ≡ slice_index_or ps k x → constructors_as i (drop k ps) ≡ constructor_as i x ∷ constructors_as i (drop (k + 1) ps)
left_there i ps k x lt here = ap (constructors_as i) (drop_more ps k x lt ∙ ap (λ y. y ∷ drop (k + 1) ps) (sym here))

-- what a loop over constructors settles
abbrev pub SettlesFirstConstructors : (a b : Parts) → List Entry → List Name → (ps : List CodePart) → ℕ → Type 0
SettlesFirstConstructors a b env names ps k = All HasOperand ps → is_aloud a.telling ≡ true → (B : Before) → Around env names B → FirstConstructors B (constructors_as a.item ps) (constructors_as a.item (drop k ps)) (sight a) (sight b)

-- one constructor more in the loop
pub each_constructor : (a b d : Parts) (env : List Entry) (names : List Name) (ps : List CodePart) (k : ℕ) (x : CodePart) → k < length ps → x ≡ slice_index_or ps k x → SettlesFirstConstructors a b env names ps k → Goes a b →
    (HasOperand x → SettlesOption b d env names (λ c. tell (constructor_as b.item x).node c ++ read_optional c (constructor_as b.item x).argument) (constructor_as b.item x).argument) → SettlesFirstConstructors a d env names ps (k + 1)
each_constructor a b d env names ps k x lt here first goes read = λ all aloud B around.
    let f = subst (λ left. FirstConstructors B (constructors_as a.item ps) left (sight a) (sight b)) (left_there a.item ps k x lt here) (first all aloud B around) in
    let one = subst (λ i. SettlesOption b d env names (λ c. tell (constructor_as i x).node c ++ read_optional c (constructor_as i x).argument) (constructor_as i x).argument) goes.item (read (has_there ps k x lt here all)) in
    one_read (constructor_as a.item x) f (one (ap is_aloud goes.telling ∙ aloud) (behind B f.judged f.fixes) around)

-- a loop over constructors whose names are asked: the names so far, and what is judged
pub record SettlesFirstNames (a b : Parts) (ps : List CodePart) (k : ℕ) (has : Name → Bool) : Type 0 where
  pub seen : List Name
  pub same : (q : Name) → has q ≡ is_among q seen
  pub first : is_aloud a.telling ≡ true → (B : Before) → FirstNames B (constructors_as a.item ps) (constructors_as a.item (drop k ps)) seen (sight a) (sight b)

-- one name more in the loop
pub each_name : (a b d : Parts) (ps : List CodePart) (k : ℕ) (x : CodePart) (t : Bor Token) (has now : Name → Bool) → k < length ps → x ≡ slice_index_or ps k x → x.name ≡ Some t → SettlesFirstNames a b ps k has → Goes a b → AsksNew (has (str_bytes t.now.name)) t.now b d →
    ((q : Name) → now q ≡ (if bytes_eq (str_bytes t.now.name) q then true else has q)) → SettlesFirstNames a d ps (k + 1) now
each_name a b d ps k x t has now lt here there f goes asked adds = record {
  seen = f.seen ++ str_bytes t.now.name ∷ [];
  same = λ q. adds q ∙ ap (λ (u : Bool). if bytes_eq (str_bytes t.now.name) q then true else u) (f.same q) ∙ among_more q (str_bytes t.now.name) f.seen;
  first = λ aloud B.
      let y = subst (λ left. FirstNames B (constructors_as a.item ps) left f.seen (sight a) (sight b)) (left_there a.item ps k x lt here) (f.first aloud B) in
      let n = (constructor_as a.item x).node in
      let j = new_judges b d {B = behind B y.judged []} n 0 t.now (has (str_bytes t.now.name)) (ap is_aloud goes.telling ∙ aloud) asked in
      one_name (constructor_as a.item x) (tok_of t.now) (ap (option_map (λ (u : Bor Token). tok_of u.now)) there) y
      (subst (λ (v : Bool). Judges (behind B y.judged []) (λ c. ask n 0 (place_of t.now.span) (test (twice (str_bytes t.now.name)) (not v))) (sight b) (sight d) (site n 0) (not v)) (f.same (str_bytes t.now.name)) j);
}

-- a constructor without a name in the loop
pub each_nameless : (a b : Parts) (ps : List CodePart) (k : ℕ) (x : CodePart) (has : Name → Bool) → k < length ps → x ≡ slice_index_or ps k x → x.name ≡ None → SettlesFirstNames a b ps k has → SettlesFirstNames a b ps (k + 1) has
each_nameless a b ps k x has lt here none f = record {
  seen = f.seen;
  same = f.same;
  first = λ aloud B.
      let y = subst (λ left. FirstNames B (constructors_as a.item ps) left f.seen (sight a) (sight b)) (left_there a.item ps k x lt here) (f.first aloud B) in
      no_name (constructor_as a.item x) (ap (option_map (λ (u : Bor Token). tok_of u.now)) none) y;
}
