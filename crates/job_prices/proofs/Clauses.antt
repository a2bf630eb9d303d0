-- What the functions of a job ensure, clause by clause.
-- Assumes nothing.

pub clauses : {A B C : Type 0} → A × (B × C) → record { answer : A; discounted : B; priced : C }
clauses w = record { answer = w.0; discounted = w.1.0; priced = w.1.1 }
