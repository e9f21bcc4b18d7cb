mod CardRoom
