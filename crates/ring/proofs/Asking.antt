-- Of any list of questions: one number at most, and never both a yes to all and a first no.
use Rattle.std.proofs.Common.{List, [], ◌∷◌, sym, ◌∙◌, inl, inr}
use Rattle.ring.specs.Questions.{Question, OneNumber, YesOrNo}

pub one_number : (qs : List Question) → OneNumber qs
one_number [] m n a b = absurd a
one_number (q ∷ qs) m n (inl a) (inl b) = a.1 ∙ sym b.1
one_number (q ∷ qs) m n (inl a) (inr b) = absurd (a.0 b.0)
one_number (q ∷ qs) m n (inr a) (inl b) = absurd (b.0 a.0)
one_number (q ∷ qs) m n (inr a) (inr b) = one_number qs m n a.1 b.1

pub yes_or_no : (qs : List Question) → YesOrNo qs
yes_or_no [] n y a = a
yes_or_no (q ∷ qs) n y (inl a) = a.0 y.0
yes_or_no (q ∷ qs) n y (inr a) = yes_or_no qs n y.1 a.1
