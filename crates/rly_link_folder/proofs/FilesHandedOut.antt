-- The changes of an outbox and of readers keep the property of files handed out.
use Rattle.std.proofs.Common.{[], arith, Bool, false, true, if◌then◌else◌, inl, inr, List, refl, subst, sym, ⊎_elim, ℕ, None, Some, Option, IsSome, ◌+◌, ◌≤◌, ◌<◌, ◌≡◌, ◌⊎◌}
use Rattle.std.proofs.lemmas.Bool.{cases_lt}
use Rattle.std.proofs.lemmas.Bool.Decides.{nat_tests}
use Rattle.std.specs.Prelude.{◌==◌}
use Rattle.rly_folder.specs.FolderModel.{File, file_with, Files, with_file}
use Rattle.rly_folder.specs.Names.{name_of}
use Rattle.rly_folder.specs.declared.name.Area.TheVariants.{Kept, Out}
use Rattle.rly_link_folder.specs.Handing.{HandedOut, IsThere}
use Rattle.rly_link_folder.proofs.Handed.{Keeps}

same : (n k : ℕ) → (n == k) ≡ true → n ≡ k
same n k is = grind (arith, nat_tests)

self : (n : ℕ) → (n == n) ≡ true
self n = grind (arith, nat_tests)

-- a name's file after a change of another name of its area, or of its own
pick : (Q : ℕ → Option File → Type 0) (n k : ℕ) (new old : Option File) → Q k new → Q n old → Q n (if n == k then new else old)
pick Q n k new old fresh rest = by_test (n == k) (same n k)
  where
    by_test : (b : Bool) → (b ≡ true → n ≡ k) → Q n (if b then new else old)
    by_test true is = subst (λ m. Q m new) (sym (is refl)) fresh
    by_test false is = rest

own : (n : ℕ) (new old : Option File) → (if n == n then new else old) ≡ new
own n new old = rw (self n) refl

pub is_kept : (n : ℕ) (file : File) (c : Files) → IsSome (with_file (name_of Kept n) (Some file) c (name_of Kept n))
is_kept n file c = rw (own n (Some file) (c (name_of Kept n))) refl

module _ (datagrams : ℕ → File) (read : ℕ → Bool) (g : ℕ) where
  abbrev pub Handed : Files → Type 0
  Handed = HandedOut datagrams read g

  -- and the next datagram is a file too
  abbrev pub WithNext : Files → Type 0
  WithNext files = Handed files × IsThere datagrams read files (g + 1)

  -- ---- files handed out

  module _ (k : ℕ) (file : Option File) (is : (file ≡ Some (datagrams k)) ⊎ (read k ≡ true)) where
    pub there_kept : (m : ℕ) → Keeps (λ c. IsThere datagrams read c m) (with_file (name_of Out k) file)
    there_kept m c there = pick (λ n o. (o ≡ Some (datagrams n)) ⊎ (read n ≡ true)) m k file (c (name_of Out m)) is there

    out_kept : (g + 1 < k → file ≡ None) → ((held : File) → file ≡ Some held → held ≡ datagrams k) → Keeps Handed (with_file (name_of Out k) file)
    out_kept above whole c p = record {
      kept = p.kept;
      bound = λ n lt. (pick (λ m o. g + 1 < m → o ≡ None) n k file (c (name_of Out n)) above (λ l. (p.bound n l).0) lt, (p.bound n lt).1);
      whole = λ n. pick (λ m o. (held : File) → o ≡ Some held → held ≡ datagrams m) n k file (c (name_of Out n)) whole (p.whole n);
      there = λ n one le. there_kept n c (p.there n one le);
      next = λ kept. there_kept (g + 1) c (p.next kept);
    }

  pub removes : (k : ℕ) → read k ≡ true → Keeps Handed (with_file (name_of Out k) None)
  removes k r = out_kept k None (inr r) (λ lt. refl) (λ held is. absurd (cc is))

  pub removes_there : (k : ℕ) → read k ≡ true → Keeps (λ c. IsThere datagrams read c (g + 1)) (with_file (name_of Out k) None)
  removes_there k r = there_kept k None (inr r) (g + 1)

  pub removes_with : (k : ℕ) → read k ≡ true → Keeps WithNext (with_file (name_of Out k) None)
  removes_with k r c p = (removes k r c p.0, removes_there k r c p.1)

  pub adds : Keeps Handed (with_file (name_of Out (g + 1)) (Some (datagrams (g + 1))))
  adds = out_kept (g + 1) (Some (datagrams (g + 1))) (inl refl) (λ lt. absurd (omega (arith, lt))) (λ held is. cc)

  pub added : (files : Files) → Handed files → IsThere datagrams read (with_file (name_of Out (g + 1)) (Some (datagrams (g + 1))) files) (g + 1)
  added files p = inl (own (g + 1) (Some (datagrams (g + 1))) (files (name_of Out (g + 1))))

  pub was_there : (files : Files) → Handed files → IsSome (files (name_of Out (g + 1))) → IsThere datagrams read files (g + 1)
  was_there files p some = inl (by_file (files (name_of Out (g + 1))) some (p.whole (g + 1)))
    where
      by_file : (o : Option File) → IsSome o → ((held : File) → o ≡ Some held → held ≡ datagrams (g + 1)) → o ≡ Some (datagrams (g + 1))
      by_file (Some held) some whole = rw (whole held refl) refl
      by_file None some whole = absurd (cc some)

  -- ---- the greatest number

  -- files of which the next number is kept
  pub keeps_next : (c d : Files) → ((n : ℕ) → d (name_of Out n) ≡ c (name_of Out n)) → IsSome (d (name_of Kept (g + 1)))
      → ((n : ℕ) → g + 1 < n → d (name_of Kept n) ≡ None) → WithNext c → WithNext d
  keeps_next c d out kept bound p = (
    record {
      kept = inr (inr kept);
      bound = λ n lt. (rw (out n) (p.0.bound n lt).0, bound n lt);
      whole = λ n. rw (out n) (p.0.whole n);
      there = λ n one le. rw (out n) (p.0.there n one le);
      next = λ k. rw (out (g + 1)) p.1;
    },
    rw (out (g + 1)) p.1,
  )

  pub makes_name : Keeps WithNext (with_file (name_of Kept (g + 1)) (Some (file_with [] 0)))
  makes_name c p = keeps_next c (with_file (name_of Kept (g + 1)) (Some (file_with [] 0)) c) (λ n. refl) (is_kept (g + 1) (file_with [] 0) c)
      (λ n lt. pick (λ m o. g + 1 < m → o ≡ None) n (g + 1) (Some (file_with [] 0)) (c (name_of Kept n)) (λ l. absurd (omega (arith, l))) (λ l. (p.0.bound n l).1) lt) p

  pub moves_name : (c : Files) (file : File) → WithNext c → WithNext (with_file (name_of Kept (g + 1)) (Some file) (with_file (name_of Kept g) None c))
  moves_name c file p = keeps_next c (with_file (name_of Kept (g + 1)) (Some file) (with_file (name_of Kept g) None c)) (λ n. refl)
      (is_kept (g + 1) file (with_file (name_of Kept g) None c))
      (λ n lt. pick (λ m o. g + 1 < m → o ≡ None) n (g + 1) (Some file) (with_file (name_of Kept g) None c (name_of Kept n)) (λ l. absurd (omega (arith, l)))
      (λ l. pick (λ m o. g + 1 < m → o ≡ None) n g None (c (name_of Kept n)) (λ m. refl) (λ m. (p.0.bound n m).1) l) lt) p

-- once the next number is kept it is the greatest
pub goes_on : (datagrams : ℕ → File) (read : ℕ → Bool) (g : ℕ) (c : Files) → WithNext datagrams read g c → IsSome (c (name_of Kept (g + 1)))
    → HandedOut datagrams read (g + 1) c
goes_on datagrams read g c p kept = record {
  kept = inr (inl kept);
  bound = λ n lt. p.0.bound n (omega (arith, lt));
  whole = p.0.whole;
  there = λ n one le. ⊎_elim (λ less. p.0.there n one less) (λ last. rw last p.1) (up_to n le);
  next = λ above. absurd (cc ((p.0.bound (g + 1 + 1) (omega arith)).1, above));
}
  where
    up_to : (n : ℕ) → n ≤ g + 1 → (n ≤ g) ⊎ (n ≡ g + 1)
    up_to n le = ⊎_elim (λ above. inr (omega (arith, le, above))) (λ below. inl below) (cases_lt g n)
