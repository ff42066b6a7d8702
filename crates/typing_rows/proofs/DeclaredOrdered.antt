-- Type expressions of a declaration in order, and a node with its parts.
use Rattle.std.proofs.Common.{◌≡◌, ◌∙◌, ◌++◌, ℕ, suc, List, [], ◌∷◌, length, map, refl, sym, ap, subst, append_assoc, append-nil}
use Rattle.type_model.specs.Types.{Typ}
use Rattle.signature_model.specs.Declarations.{Name, unknown}
use Rattle.typing_model.specs.Demands.{same}
use Rattle.typing_model.specs.Contexts.{Context, type_at, tell, unresolved, unresolved_in}
use Rattle.typing_model.specs.Parts.{TypeExpression}
use Rattle.typing_model.specs.TypeExpressions.{read_all, nodes_of}
use Rattle.env_table.specs.declared.entries.Entry.{Entry}
use Rattle.typing_state.specs.declared.parts.Parts.{Parts}
use Rattle.typing_state.specs.Goes.{Goes, OnlyIndex, OnlyStore, Silent}
use Rattle.typing_conditions.specs.Sights.{Sight}
use Rattle.typing_conditions.specs.Carrying.{Asks}
use Rattle.typing_steps.specs.States.{is_aloud, reports_of, sight}
use Rattle.typing_rows.specs.Settled.{Before, IsBehind, behind, SettledTo, AllSettled}
use Rattle.typing_rows.specs.DeclaredContracts.{SettlesTo, SettlesAll, SettlesFirst, SettlesEnd}
use Rattle.typing_rows.proofs.Settling.{settled_none, settled_trans, settled_here, settled_same, settled_told, fixed_left, fixed_right, gives_right, all_right}

-- a call that tells nothing leaves the reports
pub silent_reports : (a b : Parts) → Silent a b → (sight b).reports ≡ (sight a).reports
silent_reports a b silent = ap reports_of silent

-- and so does one that changes the store alone
pub store_reports : (a b : Parts) → OnlyStore a b → (sight b).reports ≡ (sight a).reports
store_reports a b rest = ap (λ f. (sight (record a { faults = f })).reports) rest.faults

-- or what is recorded
pub index_reports : (a b : Parts) → OnlyIndex a b → (sight b).reports ≡ (sight a).reports
index_reports a b rest = ap (λ f. (sight (record a { faults = f })).reports) rest.faults

-- what is asked may be written in another way, where it is the same in each context that stands there
pub to_here : {B : Before} {asks others : Asks} {a b : Sight} {n : ℕ} → ((c : Context) → IsBehind B c → asks c ≡ others c) → SettledTo B asks a b n → SettledTo B others a b n
to_here e x = record { judged = x.judged; told = x.told; fixes = x.fixes; type = x.type; reports = x.reports; settled = settled_here e x.settled; gives = x.gives }

-- the same of several
pub all_here : {B : Before} {asks others : Asks} {a b : Sight} {ns ms : List ℕ} → ((c : Context) → IsBehind B c → asks c ≡ others c) → AllSettled B asks a b ns ms → AllSettled B others a b ns ms
all_here e x = record { judged = x.judged; told = x.told; fixes = x.fixes; types = x.types; reports = x.reports; settled = settled_here e x.settled; gives = x.gives; many = x.many }

-- a node has a type that is one in all contexts that stand there, and nothing is reported
pub same_to : {B : Before} {a b : Sight} (n : ℕ) (t : Typ) (u : Context → Typ) → ((c : Context) → IsBehind B c → u c ≡ t) → b.reports ≡ a.reports → SettledTo B (λ c. same (type_at c n) (u c) ∷ []) a b n
same_to {a = a} n t u e kept = record { judged = []; told = []; fixes = (n, t) ∷ []; type = t; reports = kept ∙ sym (append-nil a.reports); settled = settled_same n t u e; gives = λ ch h. h.0 }

-- a type expression that names no type is an unknown one, that of its node
pub unresolved_to : {B : Before} {a b : Sight} (names : List Name) (n : ℕ) → B.names ≡ names → b.reports ≡ a.reports → SettledTo B (λ c. unresolved c n) a b n
unresolved_to names n are kept = to_here (λ c h. sym (ap (unresolved_in c n) h.variables)) (same_to n (unknown (n ∷ [])) (λ c. unknown (n ∷ [])) (λ c h. refl) kept)

-- such a type expression, by its call
pub unresolved_settles : (a b : Parts) (env : List Entry) (names : List Name) (n : ℕ) → (sight b).reports ≡ (sight a).reports → SettlesTo a b env names (λ c. unresolved c n) n
unresolved_settles a b env names n kept = λ aloud B around. unresolved_to names n around.1 kept

-- conditions, and then those of a type expression behind them
pub then_settled : {B : Before} {asks further : Asks} {a b d : Sight} {n m : ℕ} (x : SettledTo B asks a b n) → SettledTo (behind B x.judged x.fixes) further b d m → SettledTo B (λ c. asks c ++ further c) a d m
then_settled {a = a} {m = m} x y = record {
  judged = x.judged ++ y.judged;
  told = x.told ++ y.told;
  fixes = x.fixes ++ y.fixes;
  type = y.type;
  reports = y.reports ∙ ap (λ rs. rs ++ y.told) x.reports ∙ append_assoc a.reports x.told y.told;
  settled = settled_trans x.settled y.settled;
  gives = gives_right x.fixes y.fixes m y.type y.gives;
}

-- what is recorded for the node of a type expression leaves the reports
pub noted_settles : (a b d : Parts) (env : List Entry) (names : List Name) (asks : Asks) (n : ℕ) → SettlesTo a b env names asks n → OnlyIndex b d → SettlesTo a d env names (λ c. tell n c ++ asks c) n
noted_settles a b d env names asks n read rest = λ aloud B around.
    let x = read aloud (behind B [] []) around in
    record { judged = x.judged; told = x.told; fixes = x.fixes; type = x.type; reports = index_reports b d rest ∙ x.reports; settled = settled_trans (settled_told n) x.settled; gives = x.gives }

-- the parts of a row, and then its end
pub row_settles : (a b d : Parts) (env : List Entry) (names : List Name) (front ends : Asks) (ns ms : List ℕ) (n : ℕ) → SettlesAll a b env names front ns ms → Goes a b → SettlesEnd b d env names ends ns ms n → SettlesTo a d env names (λ c. front c ++ ends c) n
row_settles a b d env names front ends ns ms n parts goes end = λ aloud B around.
    let x = parts aloud B around in
    let y = end (ap is_aloud goes.telling ∙ aloud) (behind B x.judged x.fixes) around x.types (all_right B.fixes x.fixes ns x.types x.gives) x.many in
    record {
      judged = x.judged ++ y.judged;
      told = x.told ++ y.told;
      fixes = x.fixes ++ y.fixes;
      type = y.type;
      reports = y.reports ∙ ap (λ rs. rs ++ y.told) x.reports ∙ append_assoc (sight a).reports x.told y.told;
      settled = settled_trans x.settled y.settled;
      gives = gives_right x.fixes y.fixes n y.type y.gives;
    }

-- what is asked may be written in another way
pub settles_as : (a b : Parts) (env : List Entry) (names : List Name) (asks others : Asks) (n : ℕ) → ((c : Context) → asks c ≡ others c) → SettlesTo a b env names asks n → SettlesTo a b env names others n
settles_as a b env names asks others n e read = λ aloud B around. to_here (λ c h. e c) (read aloud B around)

-- no type expression yet
pub none_settled : (a : Parts) (env : List Entry) (names : List Name) (all : List TypeExpression) → SettlesFirst a a env names all all []
none_settled a env names all = λ aloud B around. record {
  done = λ c. [];
  nodes = [];
  read = record { judged = []; told = []; fixes = []; types = []; reports = sym (append-nil (sight a).reports); settled = settled_none; gives = λ ch h. refl; many = refl };
  asks = λ c. refl;
  gives = refl;
}

pub map_last : (f : ℕ → Typ) (ns : List ℕ) (n : ℕ) → map f (ns ++ n ∷ []) ≡ map f ns ++ f n ∷ []
map_last f [] n = refl
map_last f (k ∷ ns) n = ap (λ ts. f k ∷ ts) (map_last f ns n)

pub one_longer : (ns : List ℕ) (n : ℕ) → length (ns ++ n ∷ []) ≡ suc (length ns)
one_longer [] n = refl
one_longer (k ∷ ns) n = ap suc (one_longer ns n)

-- one type expression more
pub one_settled : (a b d : Parts) (env : List Entry) (names : List Name) (all left : List TypeExpression) (t : TypeExpression) (ms : List ℕ) (m : ℕ) → SettlesFirst a b env names all (t ∷ left) ms → Goes a b → SettlesTo b d env names (λ c. t.read c) t.node →
    SettlesFirst a d env names all left (ms ++ m ∷ [])
one_settled a b d env names all left t ms m first goes read = λ aloud B around.
    let x = first aloud B around in
    let y = read (ap is_aloud goes.telling ∙ aloud) (behind B x.read.judged x.read.fixes) around in
    record {
      done = λ c. x.done c ++ t.read c;
      nodes = x.nodes ++ t.node ∷ [];
      read = record {
        judged = x.read.judged ++ y.judged;
        told = x.read.told ++ y.told;
        fixes = x.read.fixes ++ y.fixes;
        types = x.read.types ++ y.type ∷ [];
        reports = y.reports ∙ ap (λ rs. rs ++ y.told) x.read.reports ∙ append_assoc (sight a).reports x.read.told y.told;
        settled = settled_trans x.read.settled y.settled;
        gives = λ ch h.
            let before = x.read.gives ch (fixed_left ch x.read.fixes y.fixes h) in
            let now = y.gives ch (fixed_right ch x.read.fixes y.fixes h) in
            map_last ch.type_at x.nodes t.node ∙ (λ i. before i ++ now i ∷ []);
        many = one_longer x.nodes t.node ∙ ap suc x.read.many ∙ sym (one_longer ms m);
      };
      asks = λ c. x.asks c ∙ sym (append_assoc (x.done c) (t.read c) (read_all c left));
      gives = x.gives ∙ sym (append_assoc x.nodes (t.node ∷ []) (nodes_of left));
    }

-- all of them
pub all_settled : (a b : Parts) (env : List Entry) (names : List Name) (all : List TypeExpression) (ms : List ℕ) → SettlesFirst a b env names all [] ms → SettlesAll a b env names (λ c. read_all c all) (nodes_of all) ms
all_settled a b env names all ms first = λ aloud B around.
    let x = first aloud B around in
    subst (λ ns. AllSettled B (λ c. read_all c all) (sight a) (sight b) ns ms) (sym (x.gives ∙ append-nil x.nodes)) (all_here (λ c h. sym (x.asks c ∙ append-nil (x.done c))) x.read)

-- a single type expression in front of a constructor
pub alone_settled : (a b : Parts) (env : List Entry) (names : List Name) (asks : Asks) (n m : ℕ) → SettlesTo a b env names asks n → SettlesAll a b env names asks (n ∷ []) (m ∷ [])
alone_settled a b env names asks n m read = λ aloud B around.
    let x = read aloud B around in
    record { judged = x.judged; told = x.told; fixes = x.fixes; types = x.type ∷ []; reports = x.reports; settled = x.settled; gives = λ ch h. ap (λ t. t ∷ []) (x.gives ch h); many = refl }
