-- Two lists that are traversed side by side.
use Rattle.std.proofs.Common.{◌≡◌, ◌∙◌, refl, sym, ap, ℕ, ◌≤◌, List, [], ◌∷◌, length, map, take}
use Rattle.std.proofs.lemmas.List.{take_all}

map_of_map : {A B C : Type 0} (f : B → C) (g : A → B) (xs : List A) → map f (map g xs) ≡ map (λ x. f (g x)) xs
map_of_map f g [] = refl
map_of_map {C = C} f g (x ∷ xs) = ap (λ (rest : List C). f (g x) ∷ rest) (map_of_map f g xs)

-- the whole first list was traversed
pub all_of : {A B C D : Type 0} (f : B → C) (g : A → B) (h : D → C) (xs : List A) (ys : List D) (i : ℕ)
    → length xs ≤ i → map (λ x. f (g x)) (take i xs) ≡ map h ys → map f (map g xs) ≡ map h ys
all_of f g h xs ys i end same = map_of_map f g xs ∙ sym (ap (map (λ x. f (g x))) (take_all i xs end)) ∙ same
