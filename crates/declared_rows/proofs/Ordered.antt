-- Type expressions of a declaration in order, and a node with its parts: what they denote.
use Rattle.std.proofs.Common.{◌≡◌, ◌∙◌, ◌++◌, ℕ, suc, true, List, [], ◌∷◌, refl, sym, ap, subst, append_assoc, append-nil, ◌<◌, ◌^◌}
use Rattle.type_model.specs.Types.{Typ}
use Rattle.signature_model.specs.Declarations.{Name}
use Rattle.typing_model.specs.Contexts.{Context, tell}
use Rattle.typing_model.specs.Parts.{TypeExpression}
use Rattle.typing_model.specs.TypeExpressions.{read_all, nodes_of}
use Rattle.env_table.specs.declared.entries.Declaration.{Declaration}
use Rattle.env_table.specs.declared.entries.Entry.{Entry}
use Rattle.env_table.specs.declared.seen.Seen.{Seen}
use Rattle.typing_state.specs.declared.parts.Parts.{Parts}
use Rattle.typing_state.specs.declared.parts.Telling.{Telling}
use Rattle.typing_state.specs.declared.parts.Telling.TheVariants.{Aloud, Quiet}
use Rattle.typing_state.specs.Goes.{Goes, OnlyIndex}
use Rattle.typing_state.specs.Notes.{NotedFirst, Noted}
use Rattle.typing_conditions.specs.Standing.{IsIn}
use Rattle.typing_conditions.specs.Frames.{Frame}
use Rattle.typing_conditions.specs.Carrying.{Asks}
use Rattle.typing_steps.specs.States.{is_aloud, written_in, sight}
use Rattle.operand_laws.specs.Operands.{number_of}
use Rattle.typing_rows.specs.Settled.{Before, IsBehind, behind}
use Rattle.typing_rows.proofs.Settling.{settled_none, settled_trans, settled_here, settled_told, fixed_left, fixed_right, gives_right, all_right}
use Rattle.typing_rows.proofs.DeclaredOrdered.{index_reports, map_last, one_longer}
use Rattle.typing_rows.proofs.Noted.{noted_on, not_noted, more_noted}
use Rattle.declared_rows.specs.Assignments.{Assignment, Assigns, Assigned, none_denote, one_denotes}
use Rattle.declared_rows.specs.Contracts.{AreNoted, Inside, AllDenoted, DenotesTo, DenotesAll, DenotesFirst, DenotesRow, DenotesEnd}
use Rattle.declared_rows.specs.Operands.{DenotesAlone}
use Rattle.declared_rows.proofs.Going.{assigned_still, denotes_on, to_after, to_before, none_assigned, more_assigned}

-- what stands around a type expression stands around the next one
pub inside_on : {F : Frame} {arity : ℕ} {U U' : List ℕ} {a b : Parts} {A : Assignment} {named : Declaration → Typ} {env : List Entry} {ps : List ℕ} → Inside F arity U a A named env ps → (x : Assigned F arity U' (sight a) (sight b) A) → Inside F arity U' b x.after named env ps
inside_on h x = record { assigns = x.assigns; types = h.types; parameters = λ k p e. denotes_on h.assigns x (h.parameters k p e) }

-- what is recorded leaves an assignment
abbrev pub index_still : {F : Frame} {arity : ℕ} {U : List ℕ} {A : Assignment} (b d : Parts) → OnlyIndex b d → Assigns F arity U (sight b) A → Assigned F arity U (sight b) (sight d) A
index_still b d rest at = assigned_still (ap (λ s. s.nodes) rest.store) rest.level (λ y k e. ap (λ w. written_in w y) rest.written ∙ e) at

-- a node without parts
pub alone_row : (a b : Parts) (env : List Entry) (names : List Name) (ps : List ℕ) (asks : Asks) (n m : ℕ) → DenotesAlone a b env names ps asks n m → Goes a b → DenotesRow a b env names ps asks n m
alone_row a b env names ps asks n m read goes = λ aloud B around F arity U A inside noted.
    let x = read aloud B around F arity U A inside in
    record { settled = x.settled; numbers = U; to = x.to; noted = noted_on U noted goes }

-- the parts of a node, and then its end
pub node_row : (a b d : Parts) (env : List Entry) (names : List Name) (ps : List ℕ) (front ends : Asks) (ns ms : List ℕ) (n m : ℕ) → DenotesAll a b env names ps front ns ms → Goes a b → DenotesEnd b d env names ps ends ns ms n m → Goes b d → DenotesRow a d env names ps (λ c. front c ++ ends c) n m
node_row a b d env names ps front ends ns ms n m parts goes end goes' = λ aloud B around F arity U A inside noted.
    let x = parts aloud B around F arity U A inside noted in
    let y = end (ap is_aloud goes.telling ∙ aloud) (behind B x.settled.judged x.settled.fixes) around x.settled.types (all_right B.fixes x.settled.fixes ns x.settled.types x.settled.gives) x.settled.many F arity x.numbers x.all.on.after (inside_on inside x.all.on) x.all.denote in
    record {
      settled = record {
        judged = x.settled.judged ++ y.settled.judged;
        told = x.settled.told ++ y.settled.told;
        fixes = x.settled.fixes ++ y.settled.fixes;
        type = y.settled.type;
        reports = y.settled.reports ∙ ap (λ rs. rs ++ y.settled.told) x.settled.reports ∙ append_assoc (sight a).reports x.settled.told y.settled.told;
        settled = settled_trans x.settled.settled y.settled.settled;
        gives = gives_right x.settled.fixes y.settled.fixes n y.settled.type y.settled.gives;
      };
      numbers = x.numbers;
      to = λ new. to_after x.all.on (y.to new);
      noted = noted_on x.numbers x.noted goes';
    }

-- the first record of a node, where faults are reported
first_note : (b d : Parts) (number : ℕ) (seen : Seen) → is_aloud b.telling ≡ true → Noted b.telling b d number seen → NotedFirst b d number seen
first_note b d number seen aloud noted = by b.telling aloud noted
  where
    by : (t : Telling) → is_aloud t ≡ true → Noted t b d number seen → NotedFirst b d number seen
    by Aloud aloud noted = noted
    by Quiet aloud noted = absurd (cc)

-- Once its node is recorded, which it wasn't before, a type expression denotes its type.
pub noted_denotes : (a b d : Parts) (env : List Entry) (names : List Name) (ps : List ℕ) (asks : Asks) (number m : ℕ) (seen : Seen) → number < 2 ^ 32 → DenotesRow a b env names ps asks (number_of a.item number) m → Goes a b → Noted b.telling b d number seen → OnlyIndex b d → Goes b d →
    DenotesTo a d env names ps (λ c. tell (number_of a.item number) c ++ asks c) (number_of a.item number) m
noted_denotes a b d env names ps asks number m seen small read goes note rest goes' = λ aloud B around F arity U A inside noted.
    let n = number_of a.item number in
    let x = read aloud (behind B [] []) around F arity U A inside noted in
    let first = first_note b d number seen (ap is_aloud goes.telling ∙ aloud) note in
    let item : n ≡ number_of b.item number = ap (λ j. number_of j number) (sym goes.item) in
    let to = x.to (λ i. not_noted x.numbers x.noted small first (subst (IsIn x.numbers) item i)) in
    let still = index_still b d rest to.on.assigns in
    record {
      settled = record { judged = x.settled.judged; told = x.settled.told; fixes = x.settled.fixes; type = x.settled.type; reports = index_reports b d rest ∙ x.settled.reports; settled = settled_trans (settled_told n) x.settled.settled; gives = x.settled.gives };
      numbers = n ∷ x.numbers;
      to = to_before to still;
      noted = subst (λ k. AreNoted (k ∷ x.numbers) d) (sym item) (more_noted x.numbers (noted_on x.numbers x.noted goes') small first);
    }

-- no type expression yet
pub none_denoted : (a : Parts) (env : List Entry) (names : List Name) (ps : List ℕ) (all : List TypeExpression) → DenotesFirst a a env names ps all all []
none_denoted a env names ps all = λ aloud B around F arity U A inside noted. record {
  done = λ c. [];
  nodes = [];
  read = record {
    settled = record { judged = []; told = []; fixes = []; types = []; reports = sym (append-nil (sight a).reports); settled = settled_none; gives = λ ch h. refl; many = refl };
    numbers = U;
    all = none_assigned inside.assigns;
    noted = noted;
  };
  asks = λ c. refl;
  gives = refl;
}

-- one type expression more
pub one_denoted : (a b d : Parts) (env : List Entry) (names : List Name) (ps : List ℕ) (all left : List TypeExpression) (t : TypeExpression) (ms : List ℕ) (m : ℕ) → DenotesFirst a b env names ps all (t ∷ left) ms → Goes a b → DenotesTo b d env names ps (λ c. t.read c) t.node m →
    DenotesFirst a d env names ps all left (ms ++ m ∷ [])
one_denoted a b d env names ps all left t ms m first goes read = λ aloud B around F arity U A inside noted.
    let x = first aloud B around F arity U A inside noted in
    let s = x.read.settled in
    let y = read (ap is_aloud goes.telling ∙ aloud) (behind B s.judged s.fixes) around F arity x.read.numbers x.read.all.on.after (inside_on inside x.read.all.on) x.read.noted in
    record {
      done = λ c. x.done c ++ t.read c;
      nodes = x.nodes ++ t.node ∷ [];
      read = record {
        settled = record {
          judged = s.judged ++ y.settled.judged;
          told = s.told ++ y.settled.told;
          fixes = s.fixes ++ y.settled.fixes;
          types = s.types ++ y.settled.type ∷ [];
          reports = y.settled.reports ∙ ap (λ rs. rs ++ y.settled.told) s.reports ∙ append_assoc (sight a).reports s.told y.settled.told;
          settled = settled_trans s.settled y.settled.settled;
          gives = λ ch h.
              let before = s.gives ch (fixed_left ch s.fixes y.settled.fixes h) in
              let now = y.settled.gives ch (fixed_right ch s.fixes y.settled.fixes h) in
              map_last ch.type_at x.nodes t.node ∙ (λ i. before i ++ now i ∷ []);
          many = one_longer x.nodes t.node ∙ ap suc s.many ∙ sym (one_longer ms m);
        };
        numbers = y.numbers;
        all = more_assigned x.read.all y.to;
        noted = y.noted;
      };
      asks = λ c. x.asks c ∙ sym (append_assoc (x.done c) (t.read c) (read_all c left));
      gives = x.gives ∙ sym (append_assoc x.nodes (t.node ∷ []) (nodes_of left));
    }

-- what is asked may be written in another way
pub all_denoted_here : {B : Before} {asks others : Asks} {F : Frame} {arity : ℕ} {a b : Parts} {A : Assignment} {ns ms : List ℕ} → ((c : Context) → IsBehind B c → asks c ≡ others c) → AllDenoted B asks F arity a b A ns ms → AllDenoted B others F arity a b A ns ms
all_denoted_here e x = record {
  settled = record { judged = x.settled.judged; told = x.settled.told; fixes = x.settled.fixes; types = x.settled.types; reports = x.settled.reports; settled = settled_here e x.settled.settled; gives = x.settled.gives; many = x.settled.many };
  numbers = x.numbers;
  all = x.all;
  noted = x.noted;
}

pub denotes_as : (a b : Parts) (env : List Entry) (names : List Name) (ps : List ℕ) (asks others : Asks) (n m : ℕ) → ((c : Context) → asks c ≡ others c) → DenotesTo a b env names ps asks n m → DenotesTo a b env names ps others n m
denotes_as a b env names ps asks others n m e read = λ aloud B around F arity U A inside noted.
    let x = read aloud B around F arity U A inside noted in
    record {
      settled = record { judged = x.settled.judged; told = x.settled.told; fixes = x.settled.fixes; type = x.settled.type; reports = x.settled.reports; settled = settled_here (λ c h. e c) x.settled.settled; gives = x.settled.gives };
      numbers = x.numbers;
      to = x.to;
      noted = x.noted;
    }

-- all of them
pub all_denoted : (a b : Parts) (env : List Entry) (names : List Name) (ps : List ℕ) (all : List TypeExpression) (ms : List ℕ) → DenotesFirst a b env names ps all [] ms → DenotesAll a b env names ps (λ c. read_all c all) (nodes_of all) ms
all_denoted a b env names ps all ms first = λ aloud B around F arity U A inside noted.
    let x = first aloud B around F arity U A inside noted in
    subst (λ ns. AllDenoted B (λ c. read_all c all) F arity a b A ns ms) (sym (x.gives ∙ append-nil x.nodes)) (all_denoted_here (λ c h. sym (x.asks c ∙ append-nil (x.done c))) x.read)

-- a single type expression in front of a constructor
pub alone_denoted : (a b : Parts) (env : List Entry) (names : List Name) (ps : List ℕ) (asks : Asks) (n m : ℕ) → DenotesTo a b env names ps asks n m → DenotesAll a b env names ps asks (n ∷ []) (m ∷ [])
alone_denoted a b env names ps asks n m read = λ aloud B around F arity U A inside noted.
    let x = read aloud B around F arity U A inside noted in
    record {
      settled = record { judged = x.settled.judged; told = x.settled.told; fixes = x.settled.fixes; types = x.settled.type ∷ []; reports = x.settled.reports; settled = x.settled.settled; gives = λ ch h. ap (λ t. t ∷ []) (x.settled.gives ch h); many = refl };
      numbers = x.numbers;
      all = record { on = x.to.on; denote = one_denotes x.to.denotes none_denote };
      noted = x.noted;
    }
