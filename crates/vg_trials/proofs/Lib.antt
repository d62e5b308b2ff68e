mod ParcelLemmas
