-- Each step keeps the rule of an answer queue.
use Rattle.std.proofs.Common.{◌≡◌, ◌≢◌, ◌⊎◌, inl, inr, ⊎_elim, ℕ, true, true≢false, Option, Some, None, List, [], ◌∷◌, ◌++◌, append_assoc, append-nil, length, set, sym, refl, ap, ◌∙◌, subst}
use Rattle.std.specs.List.{zip}
use Rattle.crossbeam_channel.specs.Fifo.{Pushes, Pops, Forks, Learns, Merges}
use Rattle.rly_machine.specs.History.{Entry, LegalButForBytes}
use Rattle.rly_machine.specs.State.{State}
use Rattle.rly_line.specs.declared.replies.ReplyView.{ReplyView}
use Rattle.rly_line.specs.Batches.{AnswersView}
use Rattle.rly_line.specs.HelpersEnds.{IsHeard, both_ends, both_known, silent_view, replying_view, hearing_view}
use Rattle.rly_line.specs.Replies.{AreBesideReplies, AreReplied, ExtendsHistory, IsBase, IsPrefixOf, IsReplyLine, ReportsInOrder}
use Rattle.rly_line.proofs.Views.{at_set, each_set, each_push, alone}
use mathlib.Core.Option.{some}
use lib.ListN.{get_elem?}

abbrev Base : Type 0
Base = Option (State (List ℕ))

-- a base that was none, or this one, is this one if some is known
settled : (base : Base) (a b : State (List ℕ)) → base ≡ Some a → (base ≡ None) ⊎ (base ≡ Some b) → base ≡ Some b
settled base a b is (inl none) = absurd (let e : None ≡ Some a = sym none ∙ is in cc)
settled base a b is (inr same) = same

-- one more batch of answers was sent
tells_more : (seat : ℕ) (base : Base) (known : List Entry) (items : List (Option AnswersView)) (told : List Entry) (given : AnswersView) (start : State (List ℕ)) (history : List Entry)
    → ReportsInOrder seat base known items told → (base ≡ None) ⊎ (base ≡ Some start) → LegalButForBytes start history → ExtendsHistory seat told given.answers history
    → ReportsInOrder seat (Some start) known (items ++ Some given ∷ []) history
tells_more seat base known [] told given start history chain same legal next =
    (start, history, refl, legal, subst (λ k. ExtendsHistory seat k given.answers history) (sym chain) next, refl)
tells_more seat base known (None ∷ items) told given start history chain same legal next = tells_more seat base known items told given start history chain same legal next
tells_more seat base known (Some x ∷ items) told given start history chain same legal next =
    let is : base ≡ Some start = settled base chain.0 start chain.2 same in (
      chain.0,
      chain.1,
      sym is ∙ chain.2,
      chain.3,
      chain.4,
      tells_more seat base chain.1 items told given start history chain.5 same legal next,
    )

-- the close has no history
tells_end : (seat : ℕ) (base : Base) (known : List Entry) (items : List (Option AnswersView)) (told : List Entry) → ReportsInOrder seat base known items told
    → ReportsInOrder seat base known (items ++ None ∷ []) told
tells_end seat base known [] told chain = chain
tells_end seat base known (None ∷ items) told chain = tells_end seat base known items told chain
tells_end seat base known (Some x ∷ items) told chain = (chain.0, chain.1, chain.2, chain.3, chain.4, tells_end seat base chain.1 items told chain.5)

-- if nothing was sent, no answers are in the queue, whoever's it is
untold : (seat other : ℕ) (base : Base) (known : List Entry) (items : List (Option AnswersView)) (told : List Entry) → ReportsInOrder seat base known items told → base ≡ None
    → ReportsInOrder other None [] items []
untold seat other base known [] told chain none = refl
untold seat other base known (None ∷ items) told chain none = untold seat other base known items told chain none
untold seat other base known (Some x ∷ items) told chain none = absurd (let e : None ≡ Some chain.0 = sym none ∙ chain.2 in cc)

-- a new queue has no history
pub begins : AreReplied [] (both_ends ∷ [])
begins = (
  0,
  0,
  0,
  None,
  [],
  [],
  record {
    chain = refl;
    tells = λ pass v at t. let one = alone both_ends v pass at in
        (one.0, ap (λ (u : ReplyView). u.seat) (sym one.1), ap (λ (u : ReplyView). u.base) (sym one.1), ap (λ (u : ReplyView). u.told) (sym one.1));
    hears = λ pass v at h. let one = alone both_ends v pass at in (
      one.0,
      ap (λ (u : ReplyView). u.seat) (sym one.1),
      ap (λ (u : ReplyView). u.known) (sym one.1),
      inr (ap (λ (u : ReplyView). u.base) (sym one.1)),
      inr (ap (λ (u : ReplyView). u.base_before) (sym one.1)),
    );
  },
)

-- the queue's first token splits into those of the two ends, which name its seat
pub forks : (pass : ℕ) (v : ReplyView) (seat : ℕ) → v ≡ both_ends → Forks AreReplied pass v (replying_view seat) (hearing_view seat)
forks pass v seat is items views rule at =
    let teller = rule.0 in let hearer = rule.1 in let line = rule.6 in
    let left : ReplyView = replying_view seat in
    let right : ReplyView = hearing_view seat in
    let vs : List ReplyView = set views pass left in
    let t = line.tells pass v at (ap (λ (u : ReplyView). u.tells) is) in
    let h = line.hears pass v at (ap (λ (u : ReplyView). u.hears) is) in
    let none : rule.3 ≡ None = sym t.2 ∙ ap (λ (u : ReplyView). u.base) is in
    let F : ℕ → ReplyView → Type 0 = λ j u. u.tells ≡ true → (j ≡ pass) × (u.seat ≡ seat) × (u.base ≡ None) × (u.told ≡ []) in
    let G : ℕ → ReplyView → Type 0 = λ j u. u.hears ≡ true → (j ≡ length vs) × (u.seat ≡ seat) × (u.known ≡ []) × IsBase u.base None × IsBase u.base_before None in (
      pass,
      length vs,
      seat,
      None,
      [],
      [],
      record {
        chain = untold rule.2 seat rule.3 rule.4 items rule.5 line.chain none;
        tells = each_push F vs right
            (each_set F views pass left (λ _. (refl, refl, refl, refl)) (λ j u apart e p. absurd (apart ((line.tells j u e p).0 ∙ sym t.0))))
            (λ p. absurd (true≢false (sym p)));
        hears = each_push G vs right
            (each_set G views pass left (λ p. absurd (true≢false (sym p))) (λ j u apart e p. absurd (apart ((line.hears j u e p).0 ∙ sym h.0))))
            (λ _. (refl, refl, refl, inl refl, inl refl));
      },
    )

-- a base that is known stays the one of the queue
later : (known base : Base) (start : State (List ℕ)) → IsBase known base → (base ≡ None) ⊎ (base ≡ Some start) → IsBase known (Some start)
later known base start (inl none) was = inl none
later known base start (inr same) (inl none) = inl (same ∙ none)
later known base start (inr same) (inr is) = inr (same ∙ is)

-- a view is put back
again : (teller hearer seat : ℕ) (base : Base) (known told : List Entry) (items now : List (Option AnswersView)) (views : List ReplyView) (pass : ℕ) (v : ReplyView)
    → IsReplyLine teller hearer seat base known told items views → ReportsInOrder seat base known now told → get_elem? views pass ≡ some v
    → IsReplyLine teller hearer seat base known told now (set views pass v)
again teller hearer seat base known told items now views pass v line chain at =
    let F : ℕ → ReplyView → Type 0 = λ j u. u.tells ≡ true → (j ≡ teller) × (u.seat ≡ seat) × (u.base ≡ base) × (u.told ≡ told) in
    let G : ℕ → ReplyView → Type 0 = λ j u. u.hears ≡ true → (j ≡ hearer) × (u.seat ≡ seat) × (u.known ≡ known) × IsBase u.base base × IsBase u.base_before base in
    record {
      chain = chain;
      tells = each_set F views pass v (line.tells pass v at) (λ j u _ e. line.tells j u e);
      hears = each_set G views pass v (line.hears pass v at) (λ j u _ e. line.hears j u e);
    }

-- the queue is closed
pub closes : (n pass : ℕ) (v : ReplyView) → Pushes AreReplied n pass v None (λ w. w ≡ v)
closes n pass v items views room rule at =
    let line = rule.6 in (
      v,
      (
        rule.0,
        rule.1,
        rule.2,
        rule.3,
        rule.4,
        rule.5,
        again rule.0 rule.1 rule.2 rule.3 rule.4 rule.5 items (items ++ None ∷ []) views pass v line (tells_end rule.2 rule.3 rule.4 items rule.5 line.chain) at,
      ),
      refl,
    )

-- a batch of answers is sent, with a history
pub puts : (n pass : ℕ) (v : ReplyView) (given : AnswersView) (start : State (List ℕ)) (history : List Entry) → v.tells ≡ true
    → (v.base ≡ None) ⊎ (v.base ≡ Some start) → LegalButForBytes start history → ExtendsHistory v.seat v.told given.answers history
    → Pushes AreReplied n pass v (Some given) (λ w. w ≡ record v { base = Some start; told = history })
puts n pass v given start history may same legal next items views room rule at =
    let teller = rule.0 in let hearer = rule.1 in let seat = rule.2 in let base = rule.3 in let known = rule.4 in let told = rule.5 in let line = rule.6 in
    let w : ReplyView = record v { base = Some start; told = history } in
    let t = line.tells pass v at may in
    let was : (base ≡ None) ⊎ (base ≡ Some start) = subst (λ (b : Base). (b ≡ None) ⊎ (b ≡ Some start)) t.2 same in
    let its : ExtendsHistory seat told given.answers history = subst (λ (y : ℕ × List Entry). ExtendsHistory y.0 y.1 given.answers history) (λ i. (t.1 i, t.3 i)) next in
    let F : ℕ → ReplyView → Type 0 = λ j u. u.tells ≡ true → (j ≡ teller) × (u.seat ≡ seat) × (u.base ≡ Some start) × (u.told ≡ history) in
    let G : ℕ → ReplyView → Type 0 = λ j u. u.hears ≡ true → (j ≡ hearer) × (u.seat ≡ seat) × (u.known ≡ known) × IsBase u.base (Some start) × IsBase u.base_before (Some start) in (
      w,
      (
        teller,
        hearer,
        seat,
        Some start,
        known,
        history,
        record {
          chain = tells_more seat base known items told given start history line.chain was legal its;
          tells = each_set F views pass w (λ _. (t.0, t.1, refl, refl)) (λ j u apart e p. absurd (apart ((line.tells j u e p).0 ∙ sym t.0)));
          hears = each_set G views pass w (λ p. let h = line.hears pass v at p in (h.0, h.1, h.2, inr refl, later v.base_before base start h.4 was))
              (λ j u apart e p. let h = line.hears j u e p in (h.0, h.1, h.2, later u.base base start h.3 was, later u.base_before base start h.4 was));
        },
      ),
      refl,
    )

-- the seat receives a batch of answers
pub takes : (pass : ℕ) (v : ReplyView) → v.hears ≡ true
    → Pops AreReplied pass v (λ given w. IsHeard v given w)
takes pass v may None items views rule at =
    let line = rule.6 in (
      v,
      (
        rule.0,
        rule.1,
        rule.2,
        rule.3,
        rule.4,
        rule.5,
        again rule.0 rule.1 rule.2 rule.3 rule.4 rule.5 (None ∷ items) items views pass v line line.chain at,
      ),
      refl,
    )
takes pass v may (Some given) items views rule at =
    let teller = rule.0 in let hearer = rule.1 in let seat = rule.2 in let base = rule.3 in let known = rule.4 in let told = rule.5 in let line = rule.6 in
    let start = line.chain.0 in let history = line.chain.1 in let is = line.chain.2 in
    let w : ReplyView = record v { base = Some start; known = history; base_before = v.base; known_before = v.known } in
    let h = line.hears pass v at may in
    let its : ExtendsHistory v.seat v.known given.answers history =
    subst (λ (y : ℕ × List Entry). ExtendsHistory y.0 y.1 given.answers history) (λ i. (sym h.1 i, sym h.2 i)) line.chain.4 in
    let F : ℕ → ReplyView → Type 0 = λ j u. u.tells ≡ true → (j ≡ teller) × (u.seat ≡ seat) × (u.base ≡ base) × (u.told ≡ told) in
    let G : ℕ → ReplyView → Type 0 = λ j u. u.hears ≡ true → (j ≡ hearer) × (u.seat ≡ seat) × (u.known ≡ history) × IsBase u.base base × IsBase u.base_before base in
    let was : (v.base ≡ None) ⊎ (v.base ≡ Some start) =
    ⊎_elim {C = (v.base ≡ None) ⊎ (v.base ≡ Some start)} (λ none. inl none) (λ same. inr (same ∙ is)) h.3 in (
      w,
      (
        teller,
        hearer,
        seat,
        base,
        history,
        told,
        record {
          chain = line.chain.5;
          tells = each_set F views pass w (λ p. let t = line.tells pass v at p in (t.0, t.1, sym is, t.3)) (λ j u apart e p. line.tells j u e p);
          hears = each_set G views pass w (λ _. (h.0, h.1, refl, inr (sym is), h.3)) (λ j u apart e p. absurd (apart ((line.hears j u e p).0 ∙ sym h.0)));
        },
      ),
      (refl, record { start = start; same_base = was; base_is = refl; legal = line.chain.3; goes_on = its }),
    )

-- the last history sent begins with the known one
told_begins : (seat : ℕ) (base : Base) (known : List Entry) (items : List (Option AnswersView)) (told : List Entry) → ReportsInOrder seat base known items told
    → (rest : List Entry) × (told ≡ known ++ rest)
told_begins seat base known [] told chain = ([], sym chain ∙ sym (append-nil known))
told_begins seat base known (None ∷ items) told chain = told_begins seat base known items told chain
told_begins seat base known (Some x ∷ items) told chain =
    let later = told_begins seat base chain.1 items told chain.5 in
    let own : List Entry = zip chain.4.calls x.answers in
    let more : List Entry = chain.4.between ++ own in (
      more ++ later.0,
      later.1 ∙ ap (λ l. l ++ later.0) (chain.4.made ∙ append_assoc known chain.4.between own) ∙ append_assoc known more later.0,
    )

pub reply_law : (answers : List (Option AnswersView)) (views : List ReplyView) (teller hearer : ReplyView) → AreReplied answers views → AreBesideReplies views teller hearer
    → IsPrefixOf hearer.base teller.base hearer.known teller.told
reply_law answers views teller hearer rule beside =
    let seat : ℕ = rule.2 in let base : Base = rule.3 in let line = rule.6 in
    let t = line.tells beside.tells_at teller beside.teller_is beside.tells in
    let h = line.hears beside.hears_at hearer beside.hearer_is beside.hears in
    let begins = told_begins seat base rule.4 answers rule.5 line.chain in
    record {
      same_base = ⊎_elim {C = (hearer.base ≡ None) ⊎ (hearer.base ≡ teller.base)} (λ none. inl none) (λ same. inr (same ∙ sym t.2)) h.3;
      rest = begins.0;
      whole = t.3 ∙ begins.1 ∙ ap (λ l. l ++ begins.0) (sym h.2);
    }

-- the sender's token absorbs the seat's
pub merges : (pass : ℕ) (v : ReplyView) (other : ℕ) (u : ReplyView) → v.tells ≡ true → u.hears ≡ true → Merges AreReplied pass v other u (both_known v u) silent_view
merges pass v other u may theirs items views rule at apart now =
    let teller = rule.0 in let seat = rule.2 in let base = rule.3 in let known = rule.4 in let told = rule.5 in let line = rule.6 in
    let both : ReplyView = both_known v u in
    let vs : List ReplyView = set views pass both in
    let t = line.tells pass v at may in
    let was : get_elem? views other ≡ some u = ⊎_elim (λ x. absurd (apart x.0)) (λ x. x.1) (at_set views pass other both u now) in
    let h = line.hears other u was theirs in
    let F : ℕ → ReplyView → Type 0 = λ j w. w.tells ≡ true → (j ≡ teller) × (w.seat ≡ seat) × (w.base ≡ base) × (w.told ≡ told) in
    let G : ℕ → ReplyView → Type 0 = λ j w. w.hears ≡ true → (j ≡ pass) × (w.seat ≡ seat) × (w.known ≡ known) × IsBase w.base base × IsBase w.base_before base in
    let Others : ℕ → ReplyView → Type 0 = λ j w. j ≢ other → G j w in (
      teller,
      pass,
      seat,
      base,
      known,
      told,
      record {
        chain = line.chain;
        tells = each_set F vs other silent_view (λ p. absurd (true≢false (sym p)))
            (λ j w _ e. each_set F views pass both (λ _. t) (λ k y _ e' p. line.tells k y e' p) j w e);
        hears = each_set G vs other silent_view (λ p. absurd (true≢false (sym p)))
            (λ j w there e. each_set Others views pass both
            (λ _ _. (refl, t.1, h.2, inr t.2, h.3))
            (λ k y _ e' there' p. absurd (there' ((line.hears k y e' p).0 ∙ sym h.0))) j w e there);
      },
    )

-- the joined knowledge of both
pub learns : (pass : ℕ) (v : ReplyView) → v.tells ≡ true → v.hears ≡ true → Learns AreReplied pass v (λ items. IsPrefixOf v.base_before v.base v.known v.told)
learns pass v may hears items views rule at =
    let line = rule.6 in
    let t = line.tells pass v at may in
    let h = line.hears pass v at hears in
    let begins = told_begins rule.2 rule.3 rule.4 items rule.5 line.chain in
    record {
      same_base = subst (λ (b : Base). IsBase v.base_before b) (sym t.2) h.4;
      rest = begins.0;
      whole = t.3 ∙ begins.1 ∙ ap (λ l. l ++ begins.0) (sym h.2);
    }

base_before_that : (a b c : Base) → IsBase a b → IsBase b c → IsBase a c
base_before_that a b c (inl none) is = inl none
base_before_that a b c (inr same) (inl none) = inl (same ∙ none)
base_before_that a b c (inr same) (inr is) = inr (same ∙ is)

-- the history known before the known one is a prefix too
pub before_that : (a b c : Base) (earlier known told : List Entry) → IsPrefixOf a b earlier known → IsPrefixOf b c known told → IsPrefixOf a c earlier told
before_that a b c earlier known told was is = record {
  same_base = base_before_that a b c was.same_base is.same_base;
  rest = was.rest ++ is.rest;
  whole = is.whole ∙ ap (λ l. l ++ is.rest) was.whole ∙ append_assoc earlier was.rest is.rest;
}
