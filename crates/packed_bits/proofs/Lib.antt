mod PackedLemmas
