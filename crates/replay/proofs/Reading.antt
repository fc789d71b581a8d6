-- The case that a text starts with, step by step as it is read.
use Rattle.std.proofs.Common.{◌≡◌, ℕ, zero, suc, ◌<◌, ◌≤◌, List, ◌++◌, length, take, drop, refl, sym, ap, ◌∙◌, arith, length-take, le-ltb, lt-ltb, eq-eqb, ne_eqb, Option, Some, None, IfOk, IfErr, Bool, true, false, cond, eqb}
use borrow.Author.Tests.{eqb-true, eqb-false}
use Rattle.std.specs.Prelude.{Result, Ok, Err, option_map}
use Rattle.std.specs.Result.{result_ok}
use Rattle.std.proofs.lemmas.Option.{none-some}
use Rattle.decimal.specs.Decimal.{Read, field_at, line_at}
use Rattle.decimal.specs.Rest.{read_of, field_in, line_rest, line_in}
use Rattle.decimal.proofs.Rests.{same_value, same_rest, line_there}
use Rattle.replay.specs.declared.cases.Kind.{Kind}
use Rattle.replay.specs.declared.cases.NoKind.{NoKind}
use Rattle.replay.specs.Cases.{number_of, length_of, count_of, case_of, kind_in, case_at, behind, case_in}

-- a number that is none of a kind
pub no_kind :
    (n : ℕ) → (n ≡ 1 → ⊥) → (n ≡ 2 → ⊥) → (n ≡ 3 → ⊥) → (n ≡ 4 → ⊥) → (n ≡ 5 → ⊥) → (n ≡ 6 → ⊥) → (n ≡ 7 → ⊥) → (n ≡ 8 → ⊥) → None ≡ count_of n
unfolding length_of
no_kind zero _ _ _ _ _ _ _ _ = refl
no_kind (suc zero) h1 h2 h3 h4 h5 h6 h7 h8 = absurd (h1 refl)
no_kind (suc (suc zero)) h1 h2 h3 h4 h5 h6 h7 h8 = absurd (h2 refl)
no_kind (suc (suc (suc zero))) h1 h2 h3 h4 h5 h6 h7 h8 = absurd (h3 refl)
no_kind (suc (suc (suc (suc zero)))) h1 h2 h3 h4 h5 h6 h7 h8 = absurd (h4 refl)
no_kind (suc (suc (suc (suc (suc zero))))) h1 h2 h3 h4 h5 h6 h7 h8 = absurd (h5 refl)
no_kind (suc (suc (suc (suc (suc (suc zero)))))) h1 h2 h3 h4 h5 h6 h7 h8 = absurd (h6 refl)
no_kind (suc (suc (suc (suc (suc (suc (suc zero))))))) h1 h2 h3 h4 h5 h6 h7 h8 = absurd (h7 refl)
no_kind (suc (suc (suc (suc (suc (suc (suc (suc zero)))))))) h1 h2 h3 h4 h5 h6 h7 h8 = absurd (h8 refl)
no_kind (suc (suc (suc (suc (suc (suc (suc (suc (suc k))))))))) _ _ _ _ _ _ _ _ = refl

abbrev of : Option ℕ → ℕ
of None = 0
of (Some m) = m

module _ (number : ℕ) where
  -- what is answered for a number
  abbrev Answered : Result Kind NoKind → Type 0
  Answered r = IfOk r (λ kind. number_of kind ≡ number) × IfErr r (λ _. None ≡ count_of number)

  pub kind_there : (r : Result Kind NoKind) → Answered r → (kind : Kind) → Some kind ≡ result_ok r → number_of kind ≡ number
  kind_there (Ok k) a kind e = ap of (ap (option_map number_of) e) ∙ a.0
  kind_there (Err _) a kind e = absurd (none-some kind (sym e))

  pub kind_lacks : (r : Result Kind NoKind) → Answered r → None ≡ result_ok r → None ≡ count_of number
  kind_lacks (Ok k) a e = absurd (none-some k e)
  kind_lacks (Err _) a e = a.1

-- a count that is given, or is not
pub counted : (kind n : ℕ) → Some n ≡ count_of kind → (length_of kind ≡ n) × (n ≡ 0 → ⊥)
counted kind n h = go (eqb (length_of kind) 0) refl h
  where
    go : (t : Bool) → eqb (length_of kind) 0 ≡ t → Some n ≡ cond t None (Some (length_of kind)) → (length_of kind ≡ n) × (n ≡ 0 → ⊥)
    go true k e = absurd (none-some n (sym e))
    go false k e =
        let same : n ≡ length_of kind = ap of e in
        (sym same, λ none. eqb-false (length_of kind) 0 k (sym same ∙ none))

pub not_counted : (kind : ℕ) → None ≡ count_of kind → length_of kind ≡ 0
not_counted kind h = go (eqb (length_of kind) 0) refl h
  where
    go : (t : Bool) → eqb (length_of kind) 0 ≡ t → None ≡ cond t None (Some (length_of kind)) → length_of kind ≡ 0
    go true k e = eqb-true (length_of kind) 0 k
    go false k e = absurd (none-some (length_of kind) e)

module _ (text w : List ℕ) where
  -- what is given for a field
  from : Option Read → Option (ℕ × List ℕ) × List ℕ
  from r = let q = kind_in r text w in (behind text q.0, q.1)

  pub no_field : None ≡ field_in text 32 → (None, w) ≡ case_in text w
  unfolding case_in case_at field_in from
  no_field h = go (field_at text 0 32) h
    where
      go : (r : Option Read) → ◌≡◌ {A = Option (ℕ × List ℕ)} None (read_of text r) → (None, w) ≡ from r
      go None e = refl
      go (Some r) e = absurd (none-some (r.value, drop r.next text) e)

  -- a kind, and what follows it
  module _ (kind : ℕ) (rest : List ℕ) (field : ◌≡◌ {A = Option (ℕ × List ℕ)} (Some (kind, rest)) (field_in text 32)) where
    record Opened : Type 0 where
      first : Read
      here : case_in text w ≡ from (Some first)
      value : first.value ≡ kind
      follows : drop first.next text ≡ rest

    opened : Opened
    unfolding case_in case_at field_in from
    opened = go (field_at text 0 32) refl field
      where
        go : (r : Option Read) → field_at text 0 32 ≡ r → ◌≡◌ {A = Option (ℕ × List ℕ)} (Some (kind, rest)) (read_of text r) → Opened
        go None k e = absurd (none-some (kind, rest) (sym e))
        go (Some r) k e =
            let p : ℕ × List ℕ = (kind, rest) in
            let o : ℕ × List ℕ = (r.value, drop r.next text) in
            record {
              first = r;
              here = ap from k;
              value = sym (same_value p o e);
              follows = sym (same_rest p o e);
            }

    pub no_count : None ≡ count_of kind → (None, w) ≡ case_in text w
    unfolding from
    no_count h =
        let o = opened in
        let none : length_of o.first.value ≡ 0 = ap length_of o.value ∙ not_counted kind h in
        sym (o.here ∙ simp (eq-eqb (length_of o.first.value) 0 none))

    module _ (n : ℕ) (count : Some n ≡ count_of kind) where
      pub too_long : length w < n → (None, w) ≡ case_in text w
      unfolding from
      too_long long =
          let o = opened in
          let c = counted kind n count in
          let many : length_of o.first.value ≡ n = ap length_of o.value ∙ c.0 in
          sym (o.here ∙ simp (many, ne_eqb n 0 c.1, lt-ltb (length w) n long))

      pub numbers :
          n ≤ length w → (line : Option (List ℕ)) (first : List ℕ) → ◌≡◌ {A = Option (List ℕ) × List ℕ} (line, first) (line_in rest (take n w))
          → (option_map (λ rest. (kind, rest)) line, first ++ drop n w) ≡ case_in text w
      unfolding from
      numbers room line first read =
          let o = opened in
          let c = counted kind n count in
          let whole : length (take n w) ≡ n = simp length-take (omega arith) in
          let at = o.first.next in
          let there : line_rest text (line_at n text at 0 (take n w)) ≡ line_in rest (take n w) =
          ap (λ (m : ℕ). line_rest text (line_at m text at 0 (take n w))) (sym whole) ∙ line_there text at (take n w) ∙ ap (λ (l : List ℕ). line_in l (take n w)) o.follows
          in
          ap (λ (r : Option (List ℕ) × List ℕ). (option_map (λ rest. (kind, rest)) r.0, r.1 ++ drop n w)) (read ∙ sym there)
          ∙ sym (o.here ∙ simp (o.value, c.0, ne_eqb n 0 c.1, le-ltb (length w) n room, cut (line_at n text at 0 (take n w)).0))
        where
          cut : (r : Option ℕ) → behind text (case_of kind r) ≡ option_map (λ rest. (kind, rest)) (option_map (λ at. drop at text) r)
          cut None = refl
          cut (Some at) = refl
